-- As for `row`, with the sign the other way round.
use Rattle.std.proofs.Common.{arith}
use Rattle.terms.proofs.Signed.{other_found}
use Rattle.terms.proofs.Literal.other_row.Goals as goal

pub returns : goal.returns
returns c = record { other = other_found (record { sfits = omega arith }) c.magnitude.ensures.size c.row_by.ensures.chosen }
