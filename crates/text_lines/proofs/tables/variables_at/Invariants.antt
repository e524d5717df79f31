-- The entries of the line up to i stand in the table from its row on (Partly); a number moves both on by one, the closing 0 makes the row whole.
use Prim.Native.Nat.{◌-◌}
use lib.ListN.{length}
use Rattle.text_words.specs.InnerNumbers.{variables}
use Rattle.text_lines.proofs.Rows.{Partly}
use Rattle.text_lines.proofs.tables.variables_at.Given as goal

abbrev pub invariant-loop-next : goal.invariant-loop-next
invariant-loop-next l = Partly variables l.text l.at l.from l.initial.prefix l.i l.row l.prefix

abbrev pub decreases-loop-next : goal.decreases-loop-next
decreases-loop-next l = length l.text - l.i
