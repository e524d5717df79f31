-- The clause asked for is the one with the number `left` among those from `start` on (`Passed`): each clause passed lessens the number by one.
use Prim.Native.Nat.{◌-◌}
use lib.ListN.{length}
use Rattle.formula.proofs.Lookups.{Passed}
use Rattle.formula.proofs.clauses.find.Given as goal

abbrev pub invariant-loop-start : goal.invariant-loop-start
invariant-loop-start l = Passed l.clauses l.asked l.start l.left

abbrev pub decreases-loop-start : goal.decreases-loop-start
decreases-loop-start l = length l.clauses - l.start
