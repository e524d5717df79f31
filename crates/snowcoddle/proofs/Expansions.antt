-- The places of expanding fit 32 bits; what C is given of an expanded formula, and that it is settled.
use Rattle.terms.specs.Says.{Answer}
use Rattle.terms.specs.declared.Counts.{Counts}
use Rattle.std.specs.Prelude.{Ok}
use Prim.Native.Nat.{ℕ, ◌<◌}
use mathlib.Core.Path.{◌≡◌, refl, ap}
use mathlib.Core.List.{[], ◌∷◌}
use mathlib.Core.Logic.{inl, inr}
use native.Mathlib.Omega.{arith}
use lib.ListN.{length}
use Rattle.terms.specs.Refusals.{At0, NoneOf}
use Rattle.formula.specs.Lent.{Formula as Lent}
use Rattle.formula_rules.specs.Rules.{read_as, read_by, check_order}
use Rattle.forest.specs.Causes.{NotUniversal}
use Rattle.expand.specs.Promise.{ResultTables, expanded_by, OfExpanded, ManyVariables, Long, Short, expand_order, LeavesFormula, Expands}
use Rattle.expand.specs.InnerOrders.{behind_expand}
use Rattle.expand.proofs.Tight.{expand_settled}
use Rattle.c_answers.specs.InnerCells.{Fits, Laid}
use Rattle.c_answers.specs.InnerFormulas.{counts_said, TwoInCells}
use Rattle.snowcoddle.specs.Told.{Told}
use Rattle.snowcoddle.proofs.Places.{Small, small_then, small_none, small_zero, small_check}
use Rattle.snowcoddle.proofs.Telling.{fits_known, tell_known}

module _ (rule : ℕ) (f : Lent) (x : ℕ) (out : ResultTables) where
  -- the formula as the rule reads it
  abbrev read : Lent
  read = read_by rule f

  small_expand : Small (expand_order rule f x out)
  small_expand =
      let many = OfExpanded read x ManyVariables in
      let long = OfExpanded read x Long in
      let short = OfExpanded read x (Short out) in
      small_then (check_order rule f) (behind_expand read x out) (small_check rule f)
      (λ _. small_zero 13 (NotUniversal f.n (read_as rule f.prefix) x) (At0 1 many ∷ At0 2 long ∷ At0 14 short ∷ [])
      (small_zero 1 many (At0 2 long ∷ At0 14 short ∷ []) (small_zero 2 long (At0 14 short ∷ []) (small_zero 14 short [] small_none))))

  -- What expanding gives is told: n and the counts, with the tables.
  module _ (out' : ResultTables) where
    abbrev LeavesIn : ℕ × ℕ × ℕ → Type 0
    LeavesIn cells = OfExpanded read x (LeavesFormula out out' cells.0 cells.1 cells.2)

    -- an expanded formula that is accepted is within the limits
    expanded_few : (cells : ℕ × ℕ × ℕ) → NoneOf (expand_order rule f x out) → LeavesIn cells → TwoInCells cells
    expanded_few cells none (members, set, leaves) =
        let g = expanded_by read x members in
        let long : ¬ (8192 < length g.prefix) = λ l. none.1.1.1.1.1.1.1.0 2 0 (refl, refl, (members, set, inl l)) in
        let large : ¬ (16384 < length g.clauses) = λ l. none.1.1.1.1.1.1.1.0 2 0 (refl, refl, (members, set, inr l)) in
        let many = leaves.entries_is in
        let more = leaves.literals_is in
        (omega arith, omega arith)

    pub fits_expand : (answer : Answer Counts) → Expands rule f x out out' answer → Fits TwoInCells (counts_said answer)
    fits_expand answer known =
        fits_known (expand_order rule f x out) LeavesIn (out' ≡ out) TwoInCells (counts_said answer) small_expand expanded_few known

    pub tell_expand : (answer : Answer Counts) {count entries literals count' entries' literals' place place' returned : ℕ}
        → Laid (counts_said answer) (count, entries, literals) (count', entries', literals') place place' returned → Expands rule f x out out' answer
        → Told (expand_order rule f x out) (OfExpanded read x (LeavesFormula out out' count' entries' literals'))
        ((count' ≡ count) × (entries' ≡ entries) × (literals' ≡ literals) × (out' ≡ out)) returned place place'
    tell_expand answer laid known =
        tell_known (expand_order rule f x out) LeavesIn (out' ≡ out) laid known
        (λ q k. (ap (λ (t : ℕ × ℕ × ℕ). t.0) q, ap (λ (t : ℕ × ℕ × ℕ). t.1) q, ap (λ (t : ℕ × ℕ × ℕ). t.2) q, k))

  -- what expanding gives: the cells and the tables
  pub expanded_tight : {a b : ResultTables} (counts counts' : Counts) → NoneOf (expand_order rule f x out)
      → OfExpanded read x (LeavesFormula out a counts.n counts.prefix counts.clauses)
      → OfExpanded read x (LeavesFormula out b counts'.n counts'.prefix counts'.clauses) → (counts ≡ counts') × (a ≡ b)
  expanded_tight counts counts' none g h =
      let same = expand_settled rule f x out _ _ (Ok counts) (Ok counts') (none, g) (none, h) in
      let answers = same.0 in
      (cc, same.1)
