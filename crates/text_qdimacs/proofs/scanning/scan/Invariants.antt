-- The lines before the place lead to the stage, and what they added stands in the tables (Reached); a line that is passed lengthens them, and ends later.
use Prim.Native.Nat.{◌-◌}
use lib.ListN.{length}
use Rattle.text_qdimacs.proofs.Scans.{Reached}
use Rattle.text_qdimacs.proofs.scanning.scan.Given as goal

abbrev pub invariant-loop-at : goal.invariant-loop-at
invariant-loop-at l = Reached l.text (l.initial.prefix, l.initial.clauses) l.at l.stage l.entries l.literals (l.prefix, l.clauses)

abbrev pub decreases-loop-at : goal.decreases-loop-at
decreases-loop-at l = length l.text - l.at
