-- The places of storing and loading a file, and the counts of what is loaded, fit 32 bits; and what C is given of a file.
use Rattle.std.specs.Prelude.{Ok, Err}
use Rattle.terms.specs.declared.Loaded.{Loaded}
use Rattle.std.specs.Prelude.{Ok, Err}
use Rattle.terms.specs.Says.{Answer}
use Prim.Native.Nat.{ℕ, ◌≤◌, ◌<◌}
use mathlib.Core.Path.{◌≡◌, refl, ap}
use mathlib.Core.List.{List, [], ◌∷◌, ◌++◌}
use mathlib.Core.Logic.{inl, inr}
use native.Mathlib.Omega.{arith}
use lib.ListN.{length}
use Rattle.terms.specs.Answers.{Settles}
use Rattle.terms.specs.Refusals.{At0, NoneOf}
use Rattle.formula.specs.Lent.{Formula}
use Rattle.formula_rules.specs.Rules.{NoRule, read_as, read_by, check_order}
use Rattle.file_format.specs.Layout.{SumsToZero}
use Rattle.file_format.specs.Places.{formula_held}
use Rattle.file_format.specs.Causes.{file_bytes, TooLarge, RecordCause, OrderCause, wrong, missing, ForestFileCause, rows_disagree, sets_disagree}
use Rattle.file_format.specs.Causes.{Lent, NoFileRoom, FileTooLarge, FileTooLong, load_order, store_order}
use Rattle.file_format.specs.InnerOrders.{file_order, table_order, behind_store}
use Rattle.file_format.specs.Promises.{Loads}
use Rattle.file_layout.specs.InnerLaid.{Laid}
use Rattle.file_format.proofs.Passing.{passed_reached}
use Rattle.file_layout.proofs.Walks.{record_cause, reached_within}
use Rattle.file_layout.proofs.Spans.{laid_ends}
use Rattle.file_layout.proofs.Laying.{file_laid}
use Rattle.c_answers.specs.Codes.{tells_sets}
use Rattle.c_answers.specs.InnerCells.{Fits, Laid as InCells}
use Rattle.c_answers.specs.InnerFormulas.{LoadedInCells, loaded_cells}
use Rattle.snowcoddle.specs.Told.{Told}
use Rattle.snowcoddle.specs.Filed.{GivenByFile}
use Rattle.snowcoddle.proofs.Places.{Small, small_then, small_within, small_at0, small_none, small_zero, small_check}
use Rattle.snowcoddle.proofs.Telling.{fits_known, tell_known}

pub small_store : (rule : ℕ) (f : Formula) (before : List ℕ) → Small (store_order rule f before)
small_store rule f before =
    let read = read_as rule f.prefix in
    small_then (check_order rule f) (behind_store f read before) (small_check rule f)
    (λ _. small_zero 19 (FileTooLarge f read) (At0 14 (FileTooLong f read before) ∷ []) (small_zero 14 (FileTooLong f read before) [] small_none))

module _ (file : List ℕ) where
  -- records begin within the file, and those of rows and sets within the longest one
  record_place : {k p : ℕ} → RecordCause file k p → p ≤ length file
  record_place cause = let l = (record_cause file cause).1.goes_on in omega arith

  order_place : {k p : ℕ} → OrderCause file k p → p ≤ length file
  order_place (wrong _ _ passed _ _) = reached_within file (passed_reached file passed)
  order_place (missing _ _ passed _ _) = reached_within file (passed_reached file passed)

  forest_place : {f : Formula} {k p : ℕ} → Laid file → ForestFileCause f file k p → p ≤ file_bytes
  forest_place laid (rows_disagree _ q _) = let ends = laid_ends file laid in omega (arith, ends.third, ends.fourth)
  forest_place laid (sets_disagree _ q _ _) = let ends = laid_ends file laid in omega (arith, ends.fourth)

  -- so where the file is not too long, each place in it fits
  small_file : Small (file_order file)
  small_file =
      let unsummed = SumsToZero file → ⊥ in
      small_then (At0 19 (TooLarge file) ∷ []) (RecordCause file ∷ OrderCause file ∷ At0 21 unsummed ∷ []) (small_at0 19 (TooLarge file))
      (λ none.
      let long : ¬ (file_bytes < length file) = λ l. none.0 19 0 (refl, refl, l) in
      small_then (RecordCause file ∷ []) (OrderCause file ∷ At0 21 unsummed ∷ [])
      (small_within (RecordCause file) file_bytes (omega arith) (λ k p cause. let l = record_place cause in omega arith))
      (λ _. small_then (OrderCause file ∷ []) (At0 21 unsummed ∷ [])
      (small_within (OrderCause file) file_bytes (omega arith) (λ k p cause. let l = order_place cause in omega arith))
      (λ _. small_at0 21 unsummed)))

  small_load : (rule : ℕ) (lent : Lent) → Small (load_order rule file lent)
  small_load rule lent =
      let held = formula_held file in
      let order = table_order rule held in
      let rows = ForestFileCause (read_by rule held) file in
      let last = At0 14 (NoFileRoom held lent) ∷ [] in
      small_then (At0 23 (NoRule rule) ∷ []) (file_order file ++ (order ++ (rows ∷ last))) (small_at0 23 (NoRule rule))
      (λ ruled. small_then (file_order file) (order ++ (rows ∷ last)) small_file
      (λ none. small_then order (rows ∷ last) (λ k p first. small_check rule held k p (inr (ruled.0, first)))
      (λ _. small_then (rows ∷ []) last (small_within rows file_bytes (omega arith) (λ k p cause. forest_place (file_laid file none) cause))
      (λ _. small_at0 14 (NoFileRoom held lent)))))

-- What loading gives is told: n, the counts and whether there are sets, with the tables.
module _ (rule : ℕ) (file : List ℕ) (lent lent' : Lent) where
  abbrev GivenIn : ℕ × ℕ × ℕ × ℕ → Type 0
  GivenIn cells = GivenByFile rule file lent lent' cells.0 cells.1 cells.2 cells.3

  load_known : (answer : Answer Loaded) → Loads rule file lent lent' answer → Settles (load_order rule file lent) GivenIn (lent' ≡ lent) (loaded_cells answer)
  load_known (Ok held) known = (
    known.0,
    record { count = known.1.0; prefix_count = known.1.1; clauses_count = known.1.2; sets_told = ap tells_sets known.1.3; filled = known.1.4 },
  )
  load_known (Err refusal) known = known

  -- the entries of an accepted formula are few
  loaded_few : (cells : ℕ × ℕ × ℕ × ℕ) → NoneOf (load_order rule file lent) → GivenIn cells → LoadedInCells cells
  loaded_few cells none g =
      let long : ¬ (8192 < length (formula_held file).prefix) = λ l. none.1.1.1.1.1.1.0 2 0 (refl, refl, inl l) in
      let large : ¬ (16384 < length (formula_held file).clauses) = λ l. none.1.1.1.1.1.1.0 2 0 (refl, refl, inr l) in
      let many = g.prefix_count in
      let more = g.clauses_count in
      (omega arith, omega arith)

  pub fits_load : (answer : Answer Loaded) → Loads rule file lent lent' answer → Fits LoadedInCells (loaded_cells answer)
  fits_load answer known =
      fits_known (load_order rule file lent) GivenIn (lent' ≡ lent) LoadedInCells (loaded_cells answer) (small_load file rule lent) loaded_few
      (load_known answer known)

  pub tell_load : (answer : Answer Loaded) {n entries literals with_sets n' entries' literals' with-sets' place place' returned : ℕ}
      → InCells (loaded_cells answer) (n, entries, literals, with_sets) (n', entries', literals', with-sets') place place' returned
      → Loads rule file lent lent' answer
      → Told (load_order rule file lent) (GivenByFile rule file lent lent' n' entries' literals' with-sets')
      ((n' ≡ n) × (entries' ≡ entries) × (literals' ≡ literals) × (with-sets' ≡ with_sets) × (lent' ≡ lent)) returned place place'
  tell_load answer laid known =
      tell_known (load_order rule file lent) GivenIn (lent' ≡ lent) laid (load_known answer known)
      (λ q k. (
        ap (λ (t : ℕ × ℕ × ℕ × ℕ). t.0) q,
        ap (λ (t : ℕ × ℕ × ℕ × ℕ). t.1) q,
        ap (λ (t : ℕ × ℕ × ℕ × ℕ). t.2) q,
        ap (λ (t : ℕ × ℕ × ℕ × ℕ). t.3) q,
        k,
      ))
