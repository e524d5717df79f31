-- No variable before v has a top. It is kept while the row of v is 0, and the answer is the number before the first that is not.
use Prim.Native.Nat.{ℕ, ◌≤◌, ◌<◌}
use mathlib.Core.Path.{◌≡◌}
use Rattle.forest_theory.specs.Tables.{row}
use Rattle.forest_climb.proofs.topless.Given as goal

abbrev pub invariant-loop-v : goal.invariant-loop-v
invariant-loop-v l = (w : ℕ) → 1 ≤ w → w < l.v → row l.n l.tops w ≡ 0
