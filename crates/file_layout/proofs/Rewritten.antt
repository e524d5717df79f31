-- Writing again what was read from an accepted file gives the same file where it has no kind 4, and where it has one the file without that
-- record and with another closing word (rule 10.7).
use Rattle.std.specs.Prelude.{Ok, Err}
use Rattle.terms.specs.Says.{Said, gives, Answer}
use Rattle.terms.specs.declared.Loaded.{Loaded}
use Prim.Native.Nat.{ℕ, ◌≤◌}
use mathlib.Core.Path.{◌≡◌, refl, sym, ap, ◌∙◌, subst}
use mathlib.Core.Bool.{Bool, true, false}
use mathlib.Core.List.{List, [], ◌∷◌, ◌++◌}
use native.Mathlib.Omega.{arith}
use lib.ListN.{length, take, drop, length-append}
use lib.Seq.{take_at}
use Rattle.terms.specs.Refusals.{Causes, At0, NoneOf}
use Rattle.terms.proofs.Orders.{none_later}
use Rattle.terms.proofs.Verdicts.{at0_none, judges_later, first_or_none}
use Rattle.formula.specs.Lent.{Formula, formula_of}
use Rattle.formula_rules.specs.Rules.{read_as, read_by, check_order}
use Rattle.formula_rules.proofs.Orders.{limits}
use Rattle.forest_tables.specs.Lent.{Rows}
use Rattle.file_format.specs.Layout.{sets_kind, record_bytes, prefix_record, clauses_record, rows_record, closing_record, SumsToZero, FileOf}
use Rattle.file_format.specs.Places.{fourth_at, has_sets, count_in, prefix_held, clauses_in, formula_held}
use Rattle.file_format.specs.Causes.{RightRows, ForestFileCause, Lent, NoFileRoom, store_order}
use Rattle.file_format.specs.InnerOrders.{file_order, table_order, behind_store}
use Rattle.file_format.specs.Promises.{Stores, Loads, WithoutSets, as_it_is, refitted}
use Rattle.file_format.proofs.Orders.{none_first}
use Rattle.file_format.proofs.Changed.{Bytes, sums}
use Rattle.file_format.proofs.Unique.{rows_unique, file_unique}
use Rattle.file_format.proofs.Short.{plain_bytes, never_too_large, in_front_lem}
use Rattle.file_format.proofs.Lengths.{closing_length}
use Rattle.file_layout.proofs.Recorded.{Behind, plain, with_sets, behind_rows, head, head_then, head_stands, head_length}

-- What the formula of an accepted file is written as: the file without its kind 4.
module _ (rule : ℕ) (file : List ℕ) (bytes : Bytes file) (none : NoneOf (file_order file)) (sum : SumsToZero file)
    (r : Rows) (right : RightRows (read_by rule (formula_held file)) file r) where
  abbrev front : List ℕ
  front = head file bytes none r.classes r.parents r.counts right.1

  front_then : (back : List ℕ) → drop (fourth_at file) file ≡ back → file ≡ front ++ back
  front_then back is = head_stands file bytes none r.classes r.parents r.counts right.1 ∙ ap (λ (xs : List ℕ). front ++ xs) is

  -- the front, in the order of the records
  in_order : (back : List ℕ)
      → front ++ back
      ≡ prefix_record (count_in file) (prefix_held file) ++ (clauses_record (clauses_in file) ++ (rows_record r.classes r.parents r.counts ++ back))
  in_order = head_then file bytes none r.classes r.parents r.counts right.1

  written : (w : List ℕ) (g : FileOf rule (formula_held file) w) → w ≡ front ++ closing_record g.word
  written w g =
      let same = rows_unique (read_by rule (formula_held file)) g.right right.0 in
      plain_bytes g
      ∙ ap (λ (q : Rows). prefix_record (count_in file) (prefix_held file)
      ++ (clauses_record (clauses_in file) ++ (rows_record q.classes q.parents q.counts ++ closing_record g.word))) same
      ∙ sym (in_order (closing_record g.word))

  drops : (w : List ℕ) → FileOf rule (formula_held file) w → WithoutSets file (has_sets file) w
  drops w g = go (has_sets file) (behind_rows file bytes none (has_sets file) refl)
    where
      go : (there : Bool) → Behind file bytes none there → WithoutSets file there w
      go true (with_sets list word is) =
          refitted front list word g.word (head_length file bytes none r.classes r.parents r.counts right.1)
          (front_then (record_bytes sets_kind list ++ closing_record word) is) (written w g) g.sum
      go false (plain word fits is) =
          let own : FileOf rule (formula_held file) file = record {
            rows = r;
            right = right.0;
            sets_record = [];
            sets_are = refl;
            word = word;
            word_fits = fits;
            bytes = front_then (closing_record word) is ∙ in_order (closing_record word);
            sum = sum;
          } in
          as_it_is (file_unique (formula_held file) (read_as rule (prefix_held file)) w file g own)

without_length : {file without : List ℕ} {there : Bool} → WithoutSets file there without → length without ≤ length file
without_length (as_it_is same) = let l = ap length same in omega arith
without_length (refitted head sets word word' at is is' sum) =
    let a = ap length is ∙ length-append head (record_bytes sets_kind sets ++ closing_record word) in
    let b = length-append (record_bytes sets_kind sets) (closing_record word) in
    let c = ap length is' ∙ length-append head (closing_record word') in
    let d = closing_length word in
    let e = closing_length word' in
    omega arith

-- Reading a file that is accepted, and writing under the same rule what was read into a table as long as the file, gives the file without its kind 4.
module _ (rule : ℕ) (file : List ℕ) (bytes : Bytes file) (lent lent' : Lent) {told : Loaded}
    (loads : Loads rule file lent lent' (Ok told)) where
  abbrev f : Formula
  f = formula_held file

  abbrev order : List Causes
  order = check_order rule f

  abbrev last : List Causes
  last = ForestFileCause (read_by rule f) file ∷ At0 14 (NoFileRoom f lent) ∷ []

  laid : NoneOf (file_order file)
  laid = none_first (file_order file) (table_order rule f ++ last) loads.0.1

  held : NoneOf (table_order rule f ++ last)
  held = none_later (file_order file) (table_order rule f ++ last) loads.0.1

  accepted : NoneOf order
  accepted = (loads.0.0, none_first (table_order rule f) last held)

  roomy : ¬ (NoFileRoom f lent)
  roomy short = (none_later (table_order rule f) last held).1.0 14 0 (refl, refl, short)

  without : (w : List ℕ) → FileOf rule f w → WithoutSets file (has_sets file) w
  without = drops rule file bytes laid (sums rule file lent loads.0) loads.1.4.rows loads.1.4.right

  -- the formula that was read, as it stands in front in the lent tables, is the one that the file holds
  abbrev pub back : Formula
  back = formula_of told.n (take told.prefix lent'.prefix) (take told.clauses lent'.clauses)

  held_back : back ≡ f
  held_back =
      let prefix = ap (λ (l : Lent). take told.prefix l.prefix) loads.1.4.left
      ∙ take_at (prefix_held file) (drop (length (prefix_held file)) lent.prefix) told.prefix (sym loads.1.1) in
      let clauses = ap (λ (l : Lent). take told.clauses l.clauses) loads.1.4.left
      ∙ take_at (clauses_in file) (drop (length (clauses_in file)) lent.clauses) told.clauses (sym loads.1.2) in
      λ i. formula_of (loads.1.0 i) (prefix i) (clauses i)

  never_refused : (before : List ℕ) → length file ≤ length before → NoneOf (store_order rule f before)
  never_refused before room =
      let read = read_as rule (prefix_held file) in
      let nothing : Said (Unit {0}) = gives tt in
      judges_later order (behind_store f read before) nothing accepted (
        at0_none 19 (never_too_large f read (limits rule f accepted)),
        (at0_none 14 (λ over. let l = without_length (without over.0 over.1) in let m = over.2 in omega arith), tt),
      )

  pub written_again : (before after : List ℕ) (answer : Answer ℕ) → length file ≤ length before → Stores rule back before after answer
      → (count : ℕ) × (answer ≡ Ok count) × WithoutSets file told.sets (take count after)
  written_again before after answer room stores = go answer (subst (λ (h : Formula). Stores rule h before after answer) held_back stores)
    where
      go : (answer : Answer ℕ) → Stores rule f before after answer
          → (count : ℕ) × (answer ≡ Ok count) × WithoutSets file told.sets (take count after)
      go (Ok count) said =
          let (w, g, is) = in_front_lem rule f before after count said in (
            count,
            refl,
            subst (λ (b : Bool). WithoutSets file b (take count after)) (sym loads.1.3)
                (subst (WithoutSets file (has_sets file)) (sym is) (without w g)),
          )
      go (Err refusal) said = absurd (first_or_none (store_order rule f before) _ _ said.0 (never_refused before room))
