-- As for variables: the entries of the line up to i stand in the table (Partly). A literal is one entry in either sign, and fits its bits.
use Prim.Native.Nat.{◌-◌}
use lib.ListN.{length}
use Rattle.text_words.specs.InnerNumbers.{literals}
use Rattle.text_lines.proofs.Rows.{Partly}
use Rattle.text_lines.proofs.tables.literals_at.Given as goal

abbrev pub invariant-loop-next : goal.invariant-loop-next
invariant-loop-next l = Partly literals l.text l.at l.from l.initial.clauses l.i l.row l.clauses

abbrev pub decreases-loop-next : goal.decreases-loop-next
decreases-loop-next l = length l.text - l.i
