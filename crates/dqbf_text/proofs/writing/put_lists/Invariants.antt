-- As for the prefix table: the bytes stored so far and the text of the rows left are the whole text (Upto).
use Rattle.text_write.proofs.Stores.{Upto}
use Rattle.dqbf_text.proofs.Bytes.{list_script}
use Rattle.dqbf_text.proofs.writing.put_lists.Given as goal

abbrev pub invariant-loop-entry : goal.invariant-loop-entry
invariant-loop-entry l = Upto list_script l.lists l.initial.out l.out l.at l.entry-index l.next l.first
