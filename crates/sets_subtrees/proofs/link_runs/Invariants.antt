-- The invariant (Linking): the run of each top has the variables from v on that have it, and no row counts more than are passed. One variable more comes
-- in front of the run of its top, since they are passed downwards.
use Rattle.std.proofs.Common.{◌-◌}
use Rattle.sets_subtrees.proofs.Linked.{Linking}
use Rattle.sets_subtrees.proofs.link_runs.Given as goal

abbrev pub invariant-loop-v : goal.invariant-loop-v
invariant-loop-v l = Linking l.n l.tops l.lead l.after (l.v - 1)
