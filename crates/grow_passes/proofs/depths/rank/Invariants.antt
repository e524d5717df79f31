-- The invariant: the rows before v hold the depths of their variables, and so do those past n, where a depth is 0 (FilledTo).
use mathlib.Core.Bool.{false}
use lib.ListN.{get_or}
use Rattle.grow_passes.specs.InnerRows.{depth_of}
use Rattle.grow_passes.proofs.Passes.{FilledTo}
use Rattle.grow_passes.proofs.depths.rank.Given as goal

abbrev pub invariant-loop-v : goal.invariant-loop-v
invariant-loop-v l = FilledTo l.n (λ u. depth_of l.n u (get_or l.levels u 0) (get_or l.universals u false)) l.depths l.v
