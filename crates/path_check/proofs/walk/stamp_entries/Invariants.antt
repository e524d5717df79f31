-- The invariant: the variables of the entries from start up to i have the stamp, and all others what they had.
use Rattle.forest_entries.specs.InnerFlags.{Has}
use Rattle.path_check.specs.InnerWalk.{Stamped}
use Rattle.path_check.proofs.Entries.{Passing}
use Rattle.path_check.proofs.walk.stamp_entries.Given as goal

abbrev pub invariant-loop-i : goal.invariant-loop-i
invariant-loop-i l = record {
  passing : Passing (λ v. ⊥) l.clauses l.start l.i;
  stamped : Stamped (Has l.clauses l.start l.i) l.stamp l.initial.stamps l.stamps;
}
