-- The invariant: of the literals that are passed those that are not of x are stored, and with the later ones and a 0 the copy would stand (Literals). A
-- literal of x is passed over, and any other is stored by its name.
use Rattle.expand_clauses.specs.InnerCopied.{tabled}
use Rattle.expand_clauses.proofs.Copying.{Literals}
use Rattle.expand_clauses.proofs.literals.copy_one.Given as goal

abbrev pub invariant-loop-entry : goal.invariant-loop-entry
invariant-loop-entry l = Literals l.value l.x.0 (tabled l.copies) l.clause l.initial.out l.at l.entry-index l.out l.end
