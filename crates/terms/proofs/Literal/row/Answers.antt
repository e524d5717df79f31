-- The sign chooses between the two rows of the variable (row_signed); the number is read back from its bits.
use Rattle.std.proofs.Common.{arith}
use Rattle.terms.proofs.Signed.{row_found}
use Rattle.terms.proofs.Literal.row.Goals as goal

pub returns : goal.returns
returns c = record { own = row_found (record { sfits = omega arith }) c.magnitude.ensures.size c.row_by.ensures.chosen }
