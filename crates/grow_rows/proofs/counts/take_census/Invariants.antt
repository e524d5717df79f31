-- The invariant: both numbers are right for the rows of 1 to `passed` (CensusOf); the three arms are the three kinds of row, and by each what is counted
-- grows as the number does.
use Rattle.grow_rows.specs.InnerRows.{CensusOf}
use Rattle.grow_rows.proofs.counts.take_census.Given as goal

abbrev pub invariant-loop-passed : goal.invariant-loop-passed
invariant-loop-passed l = CensusOf l.n l.classes l.passed l.existentials l.names
