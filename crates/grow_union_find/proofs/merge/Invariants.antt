-- The invariant: what is left to be joined, with the rows as they are, reaches what the two given ones reach with the rows as they were (Merging). Each
-- step keeps it and leaves a pair of lesser depths; where nothing is left, the rows alone do.
use Prim.Native.Nat.{◌+◌}
use lib.ListN.{get_or}
use Rattle.grow_union_find.proofs.Steps.{Merging}
use Rattle.grow_union_find.proofs.merge.Given as goal

abbrev pub invariant-loop-left : goal.invariant-loop-left
invariant-loop-left l = Merging l.depths l.initial.classes l.initial.parents l.initial.left.0.0 l.initial.left.1.0 l.classes l.parents l.left.0.0 l.left.1.0

abbrev pub decreases-loop-left : goal.decreases-loop-left
decreases-loop-left l = get_or l.depths l.left.0.0 0 + get_or l.depths l.left.1.0 0
