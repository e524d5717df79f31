-- As for the prefix table: the bytes stored so far and the text of the rows left are the whole text. A literal is read back from its bits first.
use Rattle.text_write.proofs.Stores.{Upto, clause_script}
use Rattle.text_write.proofs.writing.put_clauses.Given as goal

abbrev pub invariant-loop-literal : goal.invariant-loop-literal
invariant-loop-literal l = Upto clause_script l.clauses l.initial.out l.out l.at l.literal-index l.next l.first
