-- At the start of each list every entry before it is without fault, and the two tables say what stands there (Checked). An existential that may open a list
-- is placed, and the list then ends in one of three ways (list_unclosed, list_fault, list_closed).
use Prim.Native.Nat.{◌-◌}
use mathlib.Core.Bool.{true}
use lib.ListN.{length}
use Rattle.dqbf_lists.proofs.Checked.{Checked}
use Rattle.dqbf_lists.proofs.checking.check_lists.Given as goal

abbrev pub invariant-loop-i : goal.invariant-loop-i
invariant-loop-i l = Checked l.n l.prefix l.lists l.i true l.placed l.last

abbrev pub decreases-loop-i : goal.decreases-loop-i
decreases-loop-i l = length l.lists - l.i
