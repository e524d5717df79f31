-- The invariant: what is written so far, and what is still to be laid of the prefix, are together the expanded prefix (Laid); each entry moves one
-- step.
use Rattle.expand_clauses.specs.InnerCopied.{tabled}
use Rattle.expand.proofs.Laying.{Laid}
use Rattle.expand.proofs.blocks.lay.Given as goal

abbrev pub invariant-loop-entry : goal.invariant-loop-entry
invariant-loop-entry l = Laid l.x.0 (tabled l.copies) l.prefix l.initial.out l.entry-index l.block l.last l.out l.count
