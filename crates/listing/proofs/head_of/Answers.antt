-- The two counts are those of the blocks and of the clauses, so that the line of them is the first line of the formula.
use mathlib.Core.Path.{ap₂}
use Rattle.listing_lines.specs.Lines.{head_line}
use Rattle.listing.proofs.Printed.{line_is}
use Rattle.listing.proofs.head_of.Goals as goal

pub returns : goal.returns
returns c =
    let blocks = c.count_blocks-blocks in
    let clauses = c.count_clauses-clause_count in
    let n = c.args.n in
    record { stored = line_is (ap₂ (head_line n) blocks.ensures.counted.0 clauses.ensures.counted.0) c.head_line.ensures.stored }
