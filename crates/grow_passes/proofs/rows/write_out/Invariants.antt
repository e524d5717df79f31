-- The class rows are copied before the loop. The invariant: the parents passed have their classes. The row of a parent is there by what is required.
use Rattle.std.proofs.Common.{◌≡◌, ℕ, ◌+◌, ◌<◌, get_or}
use Rattle.grow_passes.proofs.rows.write_out.Given as goal

abbrev pub invariant-loop-v : goal.invariant-loop-v
invariant-loop-v l = (u : ℕ) → u < l.v → get_or l.up-items u 0 ≡ get_or l.classes (get_or l.parents (u + 1) 0) 0
