-- The places of the call for the resolution-path set fit 32 bits.
use Prim.Native.Nat.{ℕ, ◌<◌}
use mathlib.Core.List.{List, [], ◌∷◌}
use Rattle.terms.specs.Limits.{most_resolution_variables}
use Rattle.terms.specs.Answers.{TooLong}
use Rattle.terms.specs.Refusals.{At0}
use Rattle.formula.specs.Lent.{Formula}
use Rattle.formula_rules.specs.Rules.{read_as, read_by, check_order}
use Rattle.forest_tables.specs.Lent.{variables_of}
use Rattle.forest.specs.Causes.{NotUniversal}
use Rattle.path_resolution.specs.Paths.{DependsByPaths, resolution_order}
use Rattle.path_resolution.specs.InnerEnds.{behind_resolution}
use Rattle.snowcoddle.proofs.Places.{Small, small_then, small_none, small_zero, small_check}

pub small_resolution : (rule : ℕ) (f : Formula) (x : ℕ) (before : List ℕ) → Small (resolution_order rule f x before)
small_resolution rule f x before =
    let no_universal = NotUniversal f.n (read_as rule f.prefix) x in
    let many = most_resolution_variables < f.n in
    let long = TooLong (DependsByPaths (variables_of (read_by rule f)) f.clauses x) before in
    small_then (check_order rule f) (behind_resolution (read_by rule f) x before) (small_check rule f)
    (λ _. small_zero 13 no_universal (At0 27 many ∷ At0 14 long ∷ [])
    (small_zero 27 many (At0 14 long ∷ []) (small_zero 14 long [] small_none)))
