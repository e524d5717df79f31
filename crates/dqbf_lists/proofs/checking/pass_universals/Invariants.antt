-- All entries passed may follow, and the table has the place behind each (PassedTo); where the loop stops, the table of lists ends or an entry may not follow.
use Rattle.dqbf_lists.specs.Inner.{PassedTo}
use Rattle.dqbf_lists.proofs.checking.pass_universals.Given as goal

abbrev pub invariant-loop-i : goal.invariant-loop-i
invariant-loop-i l = PassedTo l.n l.universals l.lists l.start l.initial.last l.i l.last
