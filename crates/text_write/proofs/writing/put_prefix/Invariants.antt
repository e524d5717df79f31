-- The bytes stored so far and the text of the rows left are the text of the whole table (Upto); an entry is put behind them, at most eight bytes a row.
use Rattle.text_write.proofs.Stores.{Upto, prefix_script}
use Rattle.text_write.proofs.writing.put_prefix.Given as goal

abbrev pub invariant-loop-entry : goal.invariant-loop-entry
invariant-loop-entry l = Upto prefix_script l.prefix l.initial.out l.out l.at l.entry-index l.next l.first
