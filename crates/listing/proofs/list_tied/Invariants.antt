-- The invariant says that the lines of the universals so far were counted and written, that the tops and their runs are those over the floor, and that the
-- buffer is whole. A universal has them laid anew over its own level, which is what its line is made of; at first they are over a level that nothing is
-- deeper than, so that there is none.
use Rattle.std.proofs.Common.{◌≡◌, length}
use Rattle.formula.specs.Lent.{formula_of}
use Rattle.sets_subtrees.specs.InnerRuns.{Floored}
use Rattle.listing_lines.specs.Inner.{line_bytes}
use Rattle.listing.proofs.Lines.{Passed}
use Rattle.listing.proofs.list_tied.Given as goal

abbrev pub invariant-loop-passed : goal.invariant-loop-passed
invariant-loop-passed g l = record {
  passed : Passed (formula_of l.n l.prefix l.clauses) l.passed l.lines (g.W.Write.contents l.initial.out) (g.W.Write.contents l.out);
  floored : Floored l.n l.prefix l.classes l.parents l.floor.level.0 l.floor.place l.floor.from l.tops l.lead l.after;
  whole : length l.line ≡ line_bytes;
}
