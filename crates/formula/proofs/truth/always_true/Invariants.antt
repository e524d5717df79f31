-- The stamp stands in the rows of the literals that are passed and in no other (`Passed`): so the row of the other sign has it exactly if an
-- opposite literal was passed.
use Rattle.formula.proofs.Signs.{Passed}
use Rattle.formula.proofs.truth.always_true.Given as goal

abbrev pub invariant-loop-entry : goal.invariant-loop-entry
invariant-loop-entry l = Passed l.clause l.seen l.stamp l.entry-index
