-- A file that has no cause of 19 to 21 is its records one after the other, byte by byte: kinds 1 to 3, kind 4 if it is there, and the closing one.
use Prim.Native.Nat.{ℕ, ◌/◌, ◌%◌, ◌<◌, ◌≤◌}
use mathlib.Core.Path.{◌≡◌, refl, sym, ap, ◌∙◌}
use mathlib.Core.Bool.{Bool, true, false, ◌||◌}
use mathlib.Core.List.{List, [], ◌∷◌, ◌++◌, append_assoc, append-nil, map}
use mathlib.Core.Logic.{by_cases}
use native.Mathlib.Decide.{ℕ_discrete, dec_lt}
use native.Mathlib.Omega.{arith}
use borrow.Author.Tests.{eqb-true}
use lib.Dec.{eqb}
use lib.ListN.{length, drop, length-append, length-drop, drop_of_length-le}
use Rattle.terms.specs.Refusals.{NoneOf}
use Rattle.file_format.specs.Numbers.{number_at, numbers_at, number_bytes, bytes_of, literal_number}
use Rattle.file_format.specs.Layout.{rows_kind, sets_kind, closing_kind, record_bytes, prefix_record, clauses_record, rows_record, closing_record}
use Rattle.file_format.specs.Places.{size_at, kind_at, next_at, payload_at, second_at, third_at, fourth_at, has_sets, count_in, prefix_held, clauses_in, HoldsNumbers}
use Rattle.file_format.specs.InnerPlaces.{Reached, start, wrong}
use Rattle.file_format.proofs.Passing.{record_reached, after_rows, after_sets, after_other}
use Rattle.file_format.specs.Causes.{odd, part_literal, no_word}
use Rattle.file_format.specs.InnerOrders.{file_order}
use Rattle.file_format.proofs.Changed.{Bytes}
use Rattle.file_layout.proofs.Walks.{reached_within}
use Rattle.file_layout.proofs.Spans.{prefix_length, numbers_length, second_is, third_is, fourth_is}
use Rattle.file_layout.proofs.Laying.{Follows, follows, next_reached, first_kind, second_reached, second_kind, third_reached, third_kind}
use Rattle.file_layout.proofs.Laying.{steps_clear, fourth_reached, file_laid}
use Rattle.file_layout.proofs.Encoded.{two_fits, literals_same, record_stands}

module _ (file : List ℕ) (bytes : Bytes file) (none : NoneOf (file_order file)) where
  -- the length of a record is even
  even_size : {before place : ℕ} → Reached file before place → place < length file → size_at file place % 2 ≡ 0
  even_size {before} {place} r on =
      by_cases (ℕ_discrete (size_at file place % 2) 0) (λ e. e)
      (λ o. absurd (none.1.0 19 place (odd refl (record_reached file r on) o)))

  -- what the records of kinds 1 and 2 hold
  prefix_held_lem : HoldsNumbers 2 file 0 (count_in file ∷ prefix_held file)
  unfolding count_in prefix_held numbers_at
  prefix_held_lem =
      let counted = (file_laid file none).counted in
      let even = even_size (start refl refl) (follows file none (start refl refl) (λ q. omega arith)).goes_on in
      let many = prefix_length file in
      record {
        size = omega arith;
        values = ap (λ (k : ℕ). number_at 2 file 6 ∷ numbers_at 2 file 8 k) many;
      }

  whole_literals : size_at file (second_at file) % 4 ≡ 0
  whole_literals =
      let f = follows file none (second_reached file none) (λ q. omega arith) in
      by_cases (ℕ_discrete (size_at file (second_at file) % 4) 0) (λ e. e) (λ o. absurd (none.1.0 19 (second_at file)
      (part_literal refl (record_reached file (second_reached file none) f.goes_on) (second_kind file none) o)))

  clauses_held : HoldsNumbers 4 file (second_at file) (map literal_number (clauses_in file))
  unfolding clauses_in
  clauses_held =
      let many = size_at file (second_at file) / 4 in
      let same = literals_same file bytes (payload_at (second_at file)) many in
      let long = ap length same ∙ numbers_length 4 file (payload_at (second_at file)) many in
      let whole = whole_literals in
      record {
        size = omega arith;
        values = ap (numbers_at 4 file (payload_at (second_at file))) long ∙ sym same;
      }

  -- the last record
  closing_held : {before place : ℕ} → Reached file before place → place < length file → kind_at file place ≡ closing_kind
      → HoldsNumbers 2 file place (number_at 2 file (payload_at place) ∷ [])
  unfolding numbers_at
  closing_held {before} {place} r on is =
      record {
        size =
            by_cases (ℕ_discrete (size_at file place) 2) (λ e. e)
            (λ o. absurd (none.1.0 19 place (no_word refl (record_reached file r on) is o)));
        values = refl;
      }

  -- nothing stands behind it
  closing_stands : {before place : ℕ} → Reached file before place → Follows file none before place → kind_at file place ≡ closing_kind
      → drop place file ≡ closing_record (number_at 2 file (payload_at place))
  unfolding closing_record bytes_of
  closing_stands {before} {place} r f is =
      let word = number_bytes 2 (number_at 2 file (payload_at place)) in
      let last = next_reached file none r f is (next_at file place) refl in
      let over : next_at file place < length file → ⊥ = λ on. steps_clear file none 20 (next_at file place) (wrong closing_kind refl last on
      (after_other closing_kind (kind_at file (next_at file place)) (λ q. omega arith) (λ q. omega arith) (λ q. omega arith) (λ q. omega arith)
      (λ q. omega arith))) in
      let end : length file ≤ next_at file place = by_cases (dec_lt (next_at file place) (length file)) (λ on. absurd (over on)) (λ off. omega arith) in
      record_stands file bytes 2 place (number_at 2 file (payload_at place) ∷ []) (closing_held r f.goes_on is) f.fits
      ∙ ap (λ (xs : List ℕ). record_bytes (kind_at file place) (word ++ []) ++ xs) (drop_of_length-le file end)
      ∙ append-nil (record_bytes (kind_at file place) (word ++ []))
      ∙ ap (λ (k : ℕ). record_bytes k (word ++ [])) is
      ∙ ap (record_bytes closing_kind) (append-nil word)

  -- what stands behind kind 3, by whether kind 4 is there
  pub data Behind : Bool → Type 0 where
    plain : (word : ℕ) → word < 65536 → drop (fourth_at file) file ≡ closing_record word → Behind false
    with_sets : (sets : List ℕ) (word : ℕ) → drop (fourth_at file) file ≡ record_bytes sets_kind sets ++ closing_record word → Behind true

  pub behind_rows : (there : Bool) → has_sets file ≡ there → Behind there
  unfolding has_sets
  behind_rows true is =
      let four = fourth_reached file none in
      let f = follows file none four (λ q. omega arith) in
      let kind = eqb-true (kind_at file (fourth_at file)) sets_kind is in
      let many = size_at file (fourth_at file) / 2 in
      let numbers = numbers_at 2 file (payload_at (fourth_at file)) many in
      let long = numbers_length 2 file (payload_at (fourth_at file)) many in
      let even = even_size four f.goes_on in
      let held : HoldsNumbers 2 file (fourth_at file) numbers = record { size = omega arith; values = ap (numbers_at 2 file (payload_at (fourth_at file))) long } in
      let five = next_reached file none four f kind (next_at file (fourth_at file)) refl in
      let g = follows file none five (λ q. omega arith) in
      let last = eqb-true (kind_at file (next_at file (fourth_at file))) closing_kind
      (sym (after_sets sets_kind (kind_at file (next_at file (fourth_at file))) refl) ∙ g.may) in
      with_sets (bytes_of 2 numbers) (number_at 2 file (payload_at (next_at file (fourth_at file))))
      (record_stands file bytes 2 (fourth_at file) numbers held f.fits
      ∙ ap (λ (xs : List ℕ). record_bytes (kind_at file (fourth_at file)) (bytes_of 2 numbers) ++ xs) (closing_stands five g last)
      ∙ ap (λ (k : ℕ). record_bytes k (bytes_of 2 numbers) ++ closing_record (number_at 2 file (payload_at (next_at file (fourth_at file))))) kind)
  behind_rows false is =
      let four = fourth_reached file none in
      let f = follows file none four (λ q. omega arith) in
      plain (number_at 2 file (payload_at (fourth_at file))) (two_fits file bytes (payload_at (fourth_at file)))
      (closing_stands four f (go (kind_at file (fourth_at file)) is (sym (after_rows rows_kind (kind_at file (fourth_at file)) refl) ∙ f.may)))
    where
      go : (kind : ℕ) → eqb kind sets_kind ≡ false → eqb kind sets_kind || eqb kind closing_kind ≡ true → kind ≡ closing_kind
      go kind other may = eqb-true kind closing_kind (ap (λ (b : Bool). b || eqb kind closing_kind) (sym other) ∙ may)

  -- The records of kinds 1 to 3 stand in front, whatever the rows that the third holds.
  module _ (classes parents counts : List ℕ) (held : HoldsNumbers 4 file (third_at file) (classes ++ (parents ++ counts))) where
    abbrev pub head : List ℕ
    head = prefix_record (count_in file) (prefix_held file) ++ (clauses_record (clauses_in file) ++ rows_record classes parents counts)

    pub head_then : (back : List ℕ)
        → head ++ back ≡ prefix_record (count_in file) (prefix_held file) ++ (clauses_record (clauses_in file) ++ (rows_record classes parents counts ++ back))
    head_then back =
        let p = prefix_record (count_in file) (prefix_held file) in
        let c = clauses_record (clauses_in file) in
        let r = rows_record classes parents counts in
        append_assoc p (c ++ r) back ∙ ap (λ (xs : List ℕ). p ++ xs) (append_assoc c r back)

    pub head_stands : file ≡ head ++ drop (fourth_at file) file
    unfolding prefix_record clauses_record rows_record
    head_stands =
        let one = follows file none (start refl refl) (λ q. omega arith) in
        let two = follows file none (second_reached file none) (λ q. omega arith) in
        let three = follows file none (third_reached file none) (λ q. omega arith) in
        let first = record_stands file bytes 2 0 (count_in file ∷ prefix_held file) prefix_held_lem one.fits in
        let second = record_stands file bytes 4 (second_at file) (map literal_number (clauses_in file)) clauses_held two.fits in
        let third = record_stands file bytes 4 (third_at file) (classes ++ (parents ++ counts)) held three.fits in
        first
        ∙ ap (λ (k : ℕ). record_bytes k (bytes_of 2 (count_in file ∷ prefix_held file)) ++ drop (next_at file 0) file) (first_kind file none)
        ∙ ap (λ (xs : List ℕ). prefix_record (count_in file) (prefix_held file) ++ xs)
        (ap (λ (k : ℕ). drop k file) (sym (second_is file))
        ∙ second
        ∙ ap (λ (k : ℕ). record_bytes k (bytes_of 4 (map literal_number (clauses_in file))) ++ drop (next_at file (second_at file)) file) (second_kind file none)
        ∙ ap (λ (xs : List ℕ). clauses_record (clauses_in file) ++ xs)
        (ap (λ (k : ℕ). drop k file) (sym (third_is file))
        ∙ third
        ∙ ap (λ (k : ℕ). record_bytes k (bytes_of 4 (classes ++ (parents ++ counts))) ++ drop (next_at file (third_at file)) file) (third_kind file none)
        ∙ ap (λ (k : ℕ). rows_record classes parents counts ++ drop k file) (sym (fourth_is file))))
        ∙ sym (head_then (drop (fourth_at file) file))

    pub head_length : length head ≡ fourth_at file
    head_length =
        let a = ap length head_stands ∙ length-append head (drop (fourth_at file) file) in
        let b = length-drop (fourth_at file) file in
        let c = reached_within file (fourth_reached file none) in
        omega arith
