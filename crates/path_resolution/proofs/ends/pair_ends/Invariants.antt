-- The flags are right before v.
use Prim.Native.Nat.{ℕ, ◌≤◌, ◌<◌}
use mathlib.Core.Path.{◌≡◌}
use mathlib.Core.Bool.{true, false}
use mathlib.Core.Logic.{◌↔◌}
use lib.ListN.{get_or}
use Rattle.forest_tables.specs.InnerTabled.{tabled}
use Rattle.forest_theory.specs.Reach.{Deeper}
use Rattle.path_resolution.specs.InnerEnds.{Pairs}
use Rattle.path_resolution.proofs.ends.pair_ends.Given as goal

abbrev pub invariant-loop-v : goal.invariant-loop-v
invariant-loop-v l = (v : ℕ) → 1 ≤ v → v < l.v → (get_or l.flags v false ≡ true) ↔ (Deeper (tabled l.n l.levels l.universals) l.x.0 v × Pairs l.ends l.others v)
