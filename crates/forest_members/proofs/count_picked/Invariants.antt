-- The count is that of the numbers picked up to `passed` (`Counted`). It begins behind those that are known not to be picked.
use Rattle.forest_members.specs.InnerPicked.{pick}
use Rattle.forest_members.proofs.Picked.{Counted}
use Rattle.forest_members.proofs.count_picked.Given as goal

abbrev pub invariant-loop-passed : goal.invariant-loop-passed
invariant-loop-passed l = Counted l.n (pick l.asked l.n l.flags l.tops) 0 l.count l.passed
