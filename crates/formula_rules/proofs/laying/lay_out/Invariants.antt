-- What is written, with what is still to be written, is the joined prefix (`Writing`): each entry moves a part from the one to the other. Room for
-- it is left since all of it has room.
use lib.ListN.{length}
use Rattle.formula_rules.proofs.Written.{Writing}
use Rattle.formula_rules.proofs.laying.lay_out.Given as goal

abbrev pub invariant-loop-i : goal.invariant-loop-i
invariant-loop-i l = Writing l.prefix (length l.initial.out) l.i l.opens l.last l.count l.out
