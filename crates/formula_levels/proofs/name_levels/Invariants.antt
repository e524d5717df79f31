-- What the rows say, together with what the rest of the prefix says, is what all blocks say (`Levelling`): each entry moves a part from the rest
-- into the rows.
use Rattle.formula.proofs.Levelling.{Levelling}
use Rattle.formula_levels.proofs.name_levels.Given as goal

abbrev pub invariant-loop-entry : goal.invariant-loop-entry
invariant-loop-entry l = Levelling l.prefix l.entry-index l.opens l.mark l.block l.levels l.universals
