-- The records of a formula's file one after the other: no other place is reached, and none of them has a cause of 19 or 20.
use Rattle.std.proofs.Common.{◌≡◌, ℕ, ◌%◌, ◌<◌, ◌≤◌, Bool, true, false, ◌≢◌, List, [], ◌∷◌, ◌++◌, map, length, ℤ, sym, refl, ap, ◌∙◌, subst, append_assoc, append-nil, arith, length-append}
use Rattle.terms.specs.Refusals.{None}
use Rattle.formula.specs.Lent.{Formula}
use Rattle.file_format.specs.Numbers.{number_bytes, bytes_of, literal_number}
use Rattle.file_format.specs.Layout.{prefix_kind, clauses_kind, rows_kind, sets_kind, closing_kind, record_bytes, prefix_record, clauses_record}
use Rattle.file_format.specs.Layout.{rows_record, closing_record, SetsRecord}
use Rattle.file_format.specs.Places.{size_at, kind_at, next_at, RecordAt}
use Rattle.file_format.specs.InnerPlaces.{Reached, start, behind, may_follow, last_of, StepCause}
use Rattle.file_format.specs.Causes.{RecordCause, OrderCause}
use Rattle.file_format.proofs.Lengths.{number_length, bytes_length, record_length}
use Rattle.file_format.proofs.Decoded.{StandsAt, record_at}
use Rattle.file_format.proofs.Passing.{passed_reached, steps_orders}

-- A record with no cause of 19.
pub record Sound (file : List ℕ) (place : ℕ) : Type 0 where
  pub whole : next_at file place ≤ length file
  pub even : size_at file place % 2 ≡ 0
  pub count : kind_at file place ≡ prefix_kind → 2 ≤ size_at file place
  pub literals : kind_at file place ≡ clauses_kind → size_at file place % 4 ≡ 0
  pub word : kind_at file place ≡ closing_kind → size_at file place ≡ 2

-- What is at a place that is reached: a record with no cause of 19, whose kind may follow the one before, or the end behind kind 65,535.
pub data Good (file : List ℕ) (before place : ℕ) : Type 0 where
  record_here : place < length file → Sound file place → may_follow before (kind_at file place) ≡ true → Good file before place
  end_here : before ≡ closing_kind → place ≡ length file → Good file before place

-- So neither 19 nor 20 has a cause.
module _ (file : List ℕ) (good : (before place : ℕ) → Reached file before place → Good file before place) where
  sound_at : {place : ℕ} → RecordAt file place → Sound file place
  sound_at {place} r = of (good (last_of 0 r.kinds) place (passed_reached file r.passed)) r.goes_on
    where
      of : {before place : ℕ} → Good file before place → place < length file → Sound file place
      of (record_here less sound follows) on = sound
      of (end_here last is) on = let no : ⊥ = omega arith in absurd no

  pub no_record_cause : None (RecordCause file)
  no_record_cause number place (RecordCause.cut q r over) = let w = (sound_at r).whole in omega arith
  no_record_cause number place (RecordCause.odd q r some) = some (sound_at r).even
  no_record_cause number place (RecordCause.no_count q r kind small) = let c = (sound_at r).count kind in omega arith
  no_record_cause number place (RecordCause.part_literal q r kind some) = some ((sound_at r).literals kind)
  no_record_cause number place (RecordCause.no_word q r kind other) = other ((sound_at r).word kind)

  no_step_cause : None (StepCause file)
  no_step_cause number place (StepCause.wrong before q r less refused) = of (good before place r) less refused
    where
      of : {before place : ℕ} → Good file before place → place < length file → may_follow before (kind_at file place) ≡ false → ⊥
      of (record_here on sound follows) less refused = let z : ◌≡◌ {A = ℕ} 0 1 = cc in omega arith
      of (end_here last is) less refused = omega arith
  no_step_cause number place (StepCause.missing before q r end other) = of (good before place r) end other
    where
      of : {before place : ℕ} → Good file before place → place ≡ length file → before ≢ closing_kind → ⊥
      of (record_here on sound follows) end other = omega arith
      of (end_here last is) end other = other last

  pub no_order_cause : None (OrderCause file)
  no_order_cause = ((steps_orders file).none (no_step_cause, tt)).0

-- What a payload is to be like, by the kind of its record.
pub record Shape (kind : ℕ) (payload : List ℕ) : Type 0 where
  pub even : length payload % 2 ≡ 0
  pub count : kind ≡ prefix_kind → 2 ≤ length payload
  pub literals : kind ≡ clauses_kind → length payload % 4 ≡ 0
  pub word : kind ≡ closing_kind → length payload ≡ 2

-- Bytes that are records, each of a kind that may follow the one before, the last of kind 65,535.
pub data Run : ℕ → List ℕ → Type 0 where
  over : {before : ℕ} {bytes : List ℕ} → before ≡ closing_kind → bytes ≡ [] → Run before bytes
  next : {before : ℕ} {bytes : List ℕ} (kind : ℕ) (payload more : List ℕ) → bytes ≡ record_bytes kind payload ++ more → kind < 65536
      → may_follow before kind ≡ true → Shape kind payload → Run kind more → Run before bytes

-- The bytes of a file from a place on are such records.
pub record From (file : List ℕ) (before place : ℕ) : Type 0 where
  pub front : List ℕ
  pub bytes : List ℕ
  pub is : file ≡ front ++ bytes
  pub at : length front ≡ place
  pub run : Run before bytes

module _ (file : List ℕ) (short : length file < 4294967296) where
  -- the record there
  first_at : {place : ℕ} (front more : List ℕ) {bytes : List ℕ} (kind : ℕ) (payload : List ℕ) → file ≡ front ++ bytes
      → length front ≡ place → bytes ≡ record_bytes kind payload ++ more → kind < 65536 → StandsAt file place kind payload
  first_at {place} front more kind payload is at split fits =
      let whole : file ≡ front ++ (record_bytes kind payload ++ more) = is ∙ ap (λ (xs : List ℕ). front ++ xs) split in
      let l = ap length whole ∙ length-append front (record_bytes kind payload ++ more) in
      let m = length-append (record_bytes kind payload) more in
      let r = record_length kind payload in
      record_at kind payload front more place whole at (omega arith) fits

  -- nothing is there, or a record whose kind may follow
  from_good : (before place : ℕ) → From file before place → Good file before place
  from_good before place f = go f.front f.run f.is f.at
    where
      go : {before place : ℕ} (front : List ℕ) {bytes : List ℕ} → Run before bytes → file ≡ front ++ bytes → length front ≡ place
          → Good file before place
      go front {bytes} (over last none) is at = end_here last (let l = ap length is ∙ length-append front bytes in let z = ap length none in omega arith)
      go {before} {place} front (next kind payload more split fits follows shape rest) is at =
          let stands = first_at front more kind payload is at split fits in
          let w = stands.within in
          let size = stands.size in
          let name = stands.kind_is in
          let n = stands.next in
          record_here (omega arith)
          (record {
            whole = omega arith;
            even = ap (λ (k : ℕ). k % 2) size ∙ shape.even;
            count = λ q. let c = shape.count (sym name ∙ q) in omega arith;
            literals = λ q. ap (λ (k : ℕ). k % 4) size ∙ shape.literals (sym name ∙ q);
            word = λ q. size ∙ shape.word (sym name ∙ q);
          })
          (ap (may_follow before) name ∙ follows)

  -- behind a record the run goes on
  from_next : {before place : ℕ} (earlier p : ℕ) → From file earlier p → next_at file p ≤ length file → before ≡ kind_at file p
      → place ≡ next_at file p → From file before place
  unfolding next_at
  from_next {before} {place} earlier p f whole kind_is next-is = go f.front f.run f.is f.at
    where
      go : {earlier : ℕ} (front : List ℕ) {bytes : List ℕ} → Run earlier bytes → file ≡ front ++ bytes → length front ≡ p
          → From file before place
      go front {bytes} (over last none) is at =
          let l = ap length is ∙ length-append front bytes in let z = ap length none in let no : ⊥ = omega arith in absurd no
      go front (next kind payload more split fits follows shape rest) is at =
          let stands = first_at front more kind payload is at split fits in
          let l = length-append front (record_bytes kind payload) in
          let r = record_length kind payload in
          let n = stands.next in
          record {
            front = front ++ record_bytes kind payload;
            bytes = more;
            is = is ∙ ap (λ (xs : List ℕ). front ++ xs) split ∙ sym (append_assoc front (record_bytes kind payload) more);
            at = omega arith;
            run = subst (λ (k : ℕ). Run k more) (sym (kind_is ∙ stands.kind_is)) rest;
          }

  -- so of a file that is such a run every place that is reached is good
  reached_from : Run 0 file → (before place : ℕ) → Reached file before place → From file before place
  reached_from run before place (start b p) = record { front = []; bytes = file; is = refl; at = sym p; run = subst (λ (k : ℕ). Run k file) (sym b) run }
  reached_from run before place (behind earlier p r whole kind_is next-is) = from_next earlier p (reached_from run earlier p r) whole kind_is next-is

  pub run_good : Run 0 file → (before place : ℕ) → Reached file before place → Good file before place
  run_good run before place r = from_good before place (reached_from run before place r)

-- The records of a formula's file.
module _ (n : ℕ) (es : List ℕ) (ls : List ℤ) (classes parents counts : List ℕ) where
  prefix_shape : Shape prefix_kind (bytes_of 2 (n ∷ es))
  prefix_shape =
      let l = bytes_length 2 (n ∷ es) in
      record { even = omega arith; count = λ _. omega arith; literals = λ q. absurd (omega arith); word = λ q. absurd (omega arith) }

  clauses_shape : Shape clauses_kind (bytes_of 4 (map literal_number ls))
  clauses_shape =
      let l = bytes_length 4 (map literal_number ls) in
      record { even = omega arith; count = λ q. absurd (omega arith); literals = λ _. omega arith; word = λ q. absurd (omega arith) }

  rows_shape : Shape rows_kind (bytes_of 4 (classes ++ (parents ++ counts)))
  rows_shape =
      let l = bytes_length 4 (classes ++ (parents ++ counts)) in
      record { even = omega arith; count = λ q. absurd (omega arith); literals = λ q. absurd (omega arith); word = λ q. absurd (omega arith) }

  sets_shape : (list : List ℕ) → Shape sets_kind (bytes_of 2 list)
  sets_shape list =
      let l = bytes_length 2 list in
      record { even = omega arith; count = λ q. absurd (omega arith); literals = λ q. absurd (omega arith); word = λ q. absurd (omega arith) }

  word_shape : (word : ℕ) → Shape closing_kind (number_bytes 2 word)
  word_shape word =
      let l = number_length 2 word in
      record { even = omega arith; count = λ q. absurd (omega arith); literals = λ q. absurd (omega arith); word = λ _. l }

  last_run : (word before : ℕ) → may_follow before closing_kind ≡ true → Run before (closing_record word)
  unfolding closing_record
  last_run word before follows =
      next closing_kind (number_bytes 2 word) [] (sym (append-nil (closing_record word))) (omega arith) follows (word_shape word) (over refl refl)

  sets_run : (read : Formula) (there : Bool) (sets_record : List ℕ) (word : ℕ) → SetsRecord there read sets_record
      → Run rows_kind (sets_record ++ closing_record word)
  unfolding may_follow
  sets_run read true sets_record word (list, are, is) =
      next sets_kind (bytes_of 2 list) (closing_record word) (ap (λ (xs : List ℕ). xs ++ closing_record word) is) (omega arith) refl (sets_shape list)
      (last_run word sets_kind refl)
  sets_run read false sets_record word is = subst (λ (xs : List ℕ). Run rows_kind (xs ++ closing_record word)) (sym is) (last_run word rows_kind refl)

  -- with sets of any formula
  pub file_run : (read : Formula) (there : Bool) (sets_record : List ℕ) (word : ℕ) → SetsRecord there read sets_record
      → Run 0 (prefix_record n es ++ (clauses_record ls ++ (rows_record classes parents counts ++ (sets_record ++ closing_record word))))
  unfolding may_follow prefix_record clauses_record rows_record
  file_run read there sets_record word are =
      let rest = sets_record ++ closing_record word in
      let rows = rows_record classes parents counts in
      next prefix_kind (bytes_of 2 (n ∷ es)) (clauses_record ls ++ (rows ++ rest)) refl (omega arith) refl prefix_shape
      (next clauses_kind (bytes_of 4 (map literal_number ls)) (rows ++ rest) refl (omega arith) refl clauses_shape
      (next rows_kind (bytes_of 4 (classes ++ (parents ++ counts))) rest refl (omega arith) refl rows_shape
      (sets_run read there sets_record word are)))
