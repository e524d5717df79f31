-- What is written under a reading rule reads back the same under it (rule 10.6): the formula as it was lent, and its rows. A file with kind 4, which is
-- no longer written, is still accepted, and reading tells that sets were there (rule 10.5).
use Rattle.std.specs.Prelude.{Ok, Err}
use Rattle.terms.specs.Says.{Said, gives, Answer}
use Rattle.terms.specs.declared.Loaded.{Loaded}
use Rattle.std.proofs.Common.{◌≡◌, ℕ, ◌+◌, ◌-◌, ◌/◌, ◌<◌, ◌≤◌, Bool, true, false, List, [], ◌∷◌, ◌++◌, map, length, take, ℤ, sym, refl}
use Rattle.std.proofs.Common.{ap, ◌∙◌, subst, ⊎_elim, append_assoc, append-nil, arith, length-append, eq-eqb, ne_eqb}
use mathlib.Core.Bool.{false≢true}
use lib.ListN.{length-map}
use Rattle.terms.specs.Refusals.{At0, None, NoneOf}
use Rattle.terms.proofs.Verdicts.{at0_none, judges_later, first_or_none}
use Rattle.formula.specs.Lent.{Formula, formula_of}
use Rattle.formula_rules.specs.Rules.{read_as, read_by, check_order}
use Rattle.formula_rules.proofs.Orders.{limits}
use Rattle.forest_tables.specs.Lent.{Rows}
use Rattle.file_format.specs.Numbers.{number_bytes, bytes_of, numbers_at, literal_number, literal_of}
use Rattle.file_format.specs.Layout.{prefix_kind, clauses_kind, rows_kind, sets_kind, closing_kind, prefix_record, clauses_record, rows_record}
use Rattle.file_format.specs.Layout.{closing_record, record_bytes, ForestRows, StandardSets, SetsRecord, FileWith}
use Rattle.file_format.specs.Places.{size_at, kind_at, second_at, third_at, fourth_at, has_sets, count_in, prefix_held, clauses_in, formula_held, HoldsNumbers}
use Rattle.file_format.specs.Causes.{file_bytes, RightRows, RightSets, ForestFileCause, Lent, NoFileRoom, Roomy, load_order}
use Rattle.file_format.specs.InnerOrders.{file_order, table_order, behind_store}
use Rattle.file_format.specs.Promises.{Stores, stored_in, Loads}
use Rattle.file_format.proofs.Orders.{none_first}
use Rattle.file_format.proofs.Short.{file_short, in_front_lem}
use Rattle.file_format.proofs.Lengths.{number_length, bytes_length, record_length}
use Rattle.file_format.proofs.Unique.{rows_unique}
use Rattle.file_format.proofs.Decoded.{StandsAt, number_at_lem, numbers_at_lem, record_at, Fit}
use Rattle.file_format.proofs.Fits.{prefix_fits, clauses_back, rows_fit, sets_fit}
use Rattle.file_format.proofs.Walked.{Run, run_good, file_run, no_record_cause, no_order_cause}

-- a record's numbers, once it is known where it stands
stands_holds : {file : List ℕ} {p kind : ℕ} (width : ℕ) (numbers : List ℕ) → StandsAt file p kind (bytes_of width numbers)
    → Fit width numbers → HoldsNumbers width file p numbers
stands_holds {p = p} width numbers stands fit =
    record {
      size = stands.size ∙ bytes_length width numbers;
      values = numbers_at_lem width numbers stands.front stands.back (p + 6) stands.is stands.at fit;
    }

module _ (rule : ℕ) (f : Formula) (there : Bool) (file : List ℕ) (none : NoneOf (check_order rule f))
    (g : FileWith there f (read_as rule f.prefix) file) (fits : length file ≤ file_bytes) where
  abbrev n : ℕ
  n = f.n

  abbrev es : List ℕ
  es = f.prefix

  abbrev ls : List ℤ
  ls = f.clauses

  -- the numbers of kind 3, and its record
  abbrev numbers3 : List ℕ
  numbers3 = g.rows.classes ++ (g.rows.parents ++ g.rows.counts)

  abbrev record3 : List ℕ
  record3 = rows_record g.rows.classes g.rows.parents g.rows.counts

  abbrev rest : List ℕ
  rest = g.sets_record ++ closing_record g.word

  -- the records of kinds 1 to 3, and the one behind them
  first : StandsAt file 0 prefix_kind (bytes_of 2 (n ∷ es))
  unfolding prefix_record
  first =
      let back = clauses_record ls ++ (record3 ++ rest) in
      let l = ap length g.bytes ∙ length-append (prefix_record n es) back in
      let r = record_length prefix_kind (bytes_of 2 (n ∷ es)) in
      record_at prefix_kind (bytes_of 2 (n ∷ es)) [] back 0 g.bytes refl (omega arith) (omega arith)

  second : StandsAt file (second_at file) clauses_kind (bytes_of 4 (map literal_number ls))
  unfolding prefix_record clauses_record second_at
  second =
      let back = record3 ++ rest in
      let l = ap length g.bytes ∙ length-append (prefix_record n es) (clauses_record ls ++ back) in
      let m = length-append (clauses_record ls) back in
      let r = record_length prefix_kind (bytes_of 2 (n ∷ es)) in
      let s = record_length clauses_kind (bytes_of 4 (map literal_number ls)) in
      let next = first.next in
      record_at clauses_kind (bytes_of 4 (map literal_number ls)) (prefix_record n es) back (second_at file) g.bytes (omega arith) (omega arith) (omega arith)

  third : StandsAt file (third_at file) rows_kind (bytes_of 4 numbers3)
  unfolding prefix_record clauses_record rows_record second_at third_at
  third =
      let front = prefix_record n es ++ clauses_record ls in
      let is = g.bytes ∙ sym (append_assoc (prefix_record n es) (clauses_record ls) (record3 ++ rest)) in
      let l = ap length is ∙ length-append front (record3 ++ rest) in
      let m = length-append (record3) rest in
      let k = length-append (prefix_record n es) (clauses_record ls) in
      let r = record_length prefix_kind (bytes_of 2 (n ∷ es)) in
      let s = record_length clauses_kind (bytes_of 4 (map literal_number ls)) in
      let t = record_length rows_kind (bytes_of 4 numbers3) in
      let next = first.next in
      let next' = second.next in
      record_at rows_kind (bytes_of 4 numbers3) front rest (third_at file) is (omega arith) (omega arith) (omega arith)

  fourth : (kind : ℕ) (payload back : List ℕ) → rest ≡ record_bytes kind payload ++ back → kind < 65536 → StandsAt file (fourth_at file) kind payload
  unfolding prefix_record clauses_record rows_record second_at third_at fourth_at
  fourth kind payload back split small =
      let front = (prefix_record n es ++ clauses_record ls) ++ record3 in
      let is =
      g.bytes ∙ sym (append_assoc (prefix_record n es) (clauses_record ls) (record3 ++ rest))
      ∙ sym (append_assoc (prefix_record n es ++ clauses_record ls) (record3) rest)
      ∙ ap (λ (xs : List ℕ). front ++ xs) split in
      let l = ap length is ∙ length-append front (record_bytes kind payload ++ back) in
      let m = length-append (record_bytes kind payload) back in
      let k = length-append (prefix_record n es ++ clauses_record ls) (record3) in
      let k' = length-append (prefix_record n es) (clauses_record ls) in
      let r = record_length prefix_kind (bytes_of 2 (n ∷ es)) in
      let s = record_length clauses_kind (bytes_of 4 (map literal_number ls)) in
      let t = record_length rows_kind (bytes_of 4 numbers3) in
      let u = record_length kind payload in
      let next = first.next in
      let next' = second.next in
      let next'' = third.next in
      record_at kind payload front back (fourth_at file) is (omega arith) (omega arith) small

  -- n, the prefix and the clauses are read
  count_is : count_in file ≡ n
  unfolding count_in bytes_of
  count_is =
      number_at_lem 2 n first.front (bytes_of 2 es ++ first.back) 6
      (first.is ∙ ap (λ (xs : List ℕ). first.front ++ xs) (append_assoc (number_bytes 2 n) (bytes_of 2 es) first.back)) first.at
      (prefix_fits rule f none).0

  prefix_is : prefix_held file ≡ es
  unfolding prefix_held bytes_of
  prefix_is =
      let inner = first.is ∙ ap (λ (xs : List ℕ). first.front ++ xs) (append_assoc (number_bytes 2 n) (bytes_of 2 es) first.back) in
      let is = inner ∙ sym (append_assoc first.front (number_bytes 2 n) (bytes_of 2 es ++ first.back)) in
      let l = length-append first.front (number_bytes 2 n) in
      let k = number_length 2 n in
      let at = first.at in
      let size = first.size ∙ bytes_length 2 (n ∷ es) in
      let many : (size_at file 0 - 2) / 2 ≡ length es = omega arith in
      ap (numbers_at 2 file 8) many ∙ numbers_at_lem 2 es (first.front ++ number_bytes 2 n) first.back 8 is (omega arith) (prefix_fits rule f none).1

  clauses_is : clauses_in file ≡ ls
  unfolding clauses_in
  clauses_is =
      let numbers = map literal_number ls in
      let size = second.size ∙ bytes_length 4 numbers in
      let m = length-map ls literal_number in
      let many : size_at file (second_at file) / 4 ≡ length numbers = omega arith in
      let read = ap (numbers_at 4 file (second_at file + 6)) many
      ∙ numbers_at_lem 4 numbers second.front second.back (second_at file + 6) second.is second.at (clauses_back rule f none).1 in
      ap (map literal_of) read ∙ (clauses_back rule f none).0

  -- so the formula that the file holds is f
  held : formula_held file ≡ f
  held = λ i. formula_of (count_is i) (prefix_is i) (clauses_is i)

  abbrev read : Formula
  read = read_by rule (formula_held file)

  -- what holds of the formula as it is read holds of what is read from the file
  as_read : (P : Formula → Type 0) → P (read_by rule f) → P read
  as_read P holds = subst (λ (h : Formula). P (read_by rule h)) (sym held) holds

  right_rows : RightRows read file g.rows
  right_rows = (as_read (λ h. ForestRows h g.rows) g.right, stands_holds 4 numbers3 third (rows_fit rule f none g.right))

  -- whether sets are there, and that they are right
  closing_name : closing_kind ≡ sets_kind → ⊥
  closing_name q = omega arith

  sets_told : (b : Bool) → SetsRecord b (read_by rule f) g.sets_record → (has_sets file ≡ b) × (b ≡ true → RightSets read file)
  unfolding has_sets closing_record
  sets_told true (list, are, is) =
      let stands = fourth sets_kind (bytes_of 2 list) (closing_record g.word) (ap (λ (xs : List ℕ). xs ++ closing_record g.word) is) (omega arith) in (
        eq-eqb (kind_at file (fourth_at file)) sets_kind stands.kind_is,
        λ _. (list, as_read (λ h. StandardSets h list) are, stands_holds 2 list stands (sets_fit rule f none list are)),
      )
  sets_told false is =
      let stands = fourth closing_kind (number_bytes 2 g.word) []
      (ap (λ (xs : List ℕ). xs ++ closing_record g.word) is ∙ sym (append-nil (closing_record g.word))) (omega arith) in
      (ne_eqb (kind_at file (fourth_at file)) sets_kind (λ q. closing_name (sym stands.kind_is ∙ q)), λ on. absurd (false≢true on))

  -- No cause of reading it is there, with its sets or without, where the lent tables have room.
  module _ (lent : Lent) (room : Roomy f lent) where
    abbrev told_sets : (has_sets file ≡ there) × (there ≡ true → RightSets read file)
    told_sets = sets_told there g.sets_are

    roomy : NoFileRoom (formula_held file) lent → ⊥
    roomy short =
        let (a, b, d, e, k) = room in
        ⊎_elim (λ over. omega arith)
        (⊎_elim (λ over. omega arith) (⊎_elim (λ over. omega arith) (⊎_elim (λ over. omega arith) (λ over. omega arith))))
        (subst (λ (h : Formula). NoFileRoom h lent) held short)

    no_disagreement : None (ForestFileCause read file)
    no_disagreement number place (ForestFileCause.rows_disagree q p wrong) = wrong g.rows right_rows
    no_disagreement number place (ForestFileCause.sets_disagree q p on wrong) = wrong (told_sets.1 (sym told_sets.0 ∙ on))

    file_clear : NoneOf (file_order file)
    file_clear =
        let r = g.rows in
        let good = run_good file (omega arith)
        (subst (Run 0) (sym g.bytes) (file_run n es ls r.classes r.parents r.counts (read_by rule f) there g.sets_record g.word g.sets_are)) in
        (at0_none 19 (λ over. omega arith), (no_record_cause file good, (no_order_cause file good, (at0_none 21 (λ wrong. wrong g.sum), tt))))

    pub clear : NoneOf (load_order rule file lent)
    clear =
        let later = ForestFileCause read file ∷ At0 14 (NoFileRoom (formula_held file) lent) ∷ [] in
        let order = table_order rule (formula_held file) in
        let nothing : Said (Unit {0}) = gives tt in (
          none.0,
          judges_later (file_order file) (order ++ later) nothing file_clear
              (judges_later order later nothing (subst (λ (h : Formula). NoneOf (check_order rule h)) (sym held) none).1
              (no_disagreement, (at0_none 14 roomy, tt))),
        )

    -- So reading it gives the formula back, its rows, and whether sets are there.
    pub reads_back : (lent' : Lent) (answer : Answer Loaded) → Loads rule file lent lent' answer
        → (answer ≡ Ok (record { n = f.n; prefix = length f.prefix; clauses = length f.clauses; sets = there })) × (lent' ≡ stored_in lent f g.rows)
    reads_back lent' (Ok _) (none', (count, prefix, clauses, told, filled)) =
        let m-is = count ∙ count_is in
        let e_is = prefix ∙ ap length prefix_is in
        let l_is = clauses ∙ ap length clauses_is in
        let s_is = told ∙ told_sets.0 in
        let same = rows_unique read filled.right.0 right_rows.0 in
        (λ i. Ok (record { n = m-is i; prefix = e_is i; clauses = l_is i; sets = s_is i }), filled.left ∙ (λ i. stored_in lent (held i) (same i)))
    reads_back lent' (Err refusal) (first', same) = absurd (first_or_none (load_order rule file lent) _ _ first' clear)

-- What writing leaves in front in its table, read into tables with room for it, gives the same formula and the rows of its forest.
pub written_reads_back : (rule : ℕ) (f : Formula) (before after : List ℕ) (count : ℕ) → Stores rule f before after (Ok count)
    → (lent : Lent) → Roomy f lent → (lent' : Lent) (answer : Answer Loaded) → Loads rule (take count after) lent lent' answer
    → (answer ≡ Ok (record { n = f.n; prefix = length f.prefix; clauses = length f.clauses; sets = false }))
    × ((r : Rows) × ForestRows (read_by rule f) r × (lent' ≡ stored_in lent f r))
written_reads_back rule f before after count stores lent room lent' answer loads =
    let (file, g, is) = in_front_lem rule f before after count stores in
    let none = none_first (check_order rule f) (behind_store f (read_as rule f.prefix) before) stores.0 in
    let short = file_short f (read_as rule f.prefix) (limits rule f none) file g in
    let back = reads_back rule f false file none g (omega arith) lent room lent' answer
    (subst (λ (xs : List ℕ). Loads rule xs lent lent' answer) is loads) in
    (back.0, (g.rows, g.right, back.1))
