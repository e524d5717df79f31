-- The invariant: the place is reached behind a record of the kind before, and no record up to there is out of order (Ordered). A kind that
-- may not follow is then the first fault; a file that ends behind another kind than the last misses one.
use Prim.Native.Nat.{◌-◌}
use lib.ListN.{length}
use Rattle.file_layout.proofs.Walks.{Ordered}
use Rattle.file_layout.proofs.order_verdict.Given as goal

abbrev pub invariant-loop-at : goal.invariant-loop-at
invariant-loop-at l = Ordered l.file l.at l.before

abbrev pub decreases-loop-at : goal.decreases-loop-at
decreases-loop-at l = length l.file - l.at
