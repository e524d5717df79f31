-- The lines before the place lead to the stage, and what they added stands in the three tables (Reached); a line that is passed lengthens them.
use Prim.Native.Nat.{◌-◌}
use lib.ListN.{length}
use Rattle.dqbf_text.proofs.Scans.{Reached}
use Rattle.dqbf_text.proofs.scanning.scan.Given as goal

abbrev pub invariant-loop-at : goal.invariant-loop-at
invariant-loop-at l = Reached l.text (l.initial.prefix, l.initial.clauses, l.initial.lists) l.at l.listed l.stage (l.entries, l.literals, l.rows) (l.prefix, l.clauses, l.lists)

abbrev pub decreases-loop-at : goal.decreases-loop-at
decreases-loop-at l = length l.text - l.at
