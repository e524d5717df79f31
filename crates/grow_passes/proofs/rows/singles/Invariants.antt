-- No row has a parent before the loop. The invariant: the class rows before v, and those past n, hold v where there is a depth and else 0 (FilledTo).
-- Such rows stand for no clause.
use mathlib.Core.Path.{◌≡◌}
use mathlib.Core.Bool.{cond}
use Prim.Native.Nat.{ℕ}
use lib.Dec.{ltb}
use lib.ListN.{get_or}
use Rattle.grow_passes.proofs.Passes.{FilledTo}
use Rattle.grow_passes.proofs.rows.singles.Given as goal

abbrev pub invariant-loop-v : goal.invariant-loop-v
invariant-loop-v l = record {
  class : FilledTo l.n (λ u. cond (ltb 0 (get_or l.depths u 0)) u 0) l.classes l.v;
  parent : (u : ℕ) → get_or l.parents u 0 ≡ 0;
}
