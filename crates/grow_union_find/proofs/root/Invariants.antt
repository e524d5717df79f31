-- The invariant says where the find stands: on the way from v to its root, in rows that were halved so far and stand for what they stood for (Halving).
-- Rows point to themselves or lower, so that `at` falls; where a row points to itself the find has the root.
use Rattle.grow_union_find.proofs.Ways.{Halving}
use Rattle.grow_union_find.proofs.root.Given as goal

abbrev pub invariant-loop-next : goal.invariant-loop-next
invariant-loop-next l = Halving l.initial.classes l.initial.at l.classes l.at l.next

abbrev pub decreases-loop-next : goal.decreases-loop-next
decreases-loop-next l = l.at
