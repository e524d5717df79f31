-- The invariant: a record begins at the place, or the file ends, and no record before it is wrong (Shaped). So the first one that is wrong
-- is the first cause.
use Prim.Native.Nat.{◌-◌}
use lib.ListN.{length}
use Rattle.file_layout.proofs.Walks.{Shaped}
use Rattle.file_layout.proofs.shape_verdict.Given as goal

abbrev pub invariant-loop-at : goal.invariant-loop-at
invariant-loop-at l = Shaped l.file l.at

abbrev pub decreases-loop-at : goal.decreases-loop-at
decreases-loop-at l = length l.file - l.at
