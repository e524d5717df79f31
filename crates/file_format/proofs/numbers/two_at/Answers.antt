-- Of two bytes the higher counts 256 times (two_is).
use Rattle.std.proofs.Common.{arith}
use Rattle.file_format.proofs.Bits.{two_is}
use Rattle.file_format.proofs.numbers.two_at.Goals as goal

pub returns : goal.returns
returns c =
    let a = c.args in
    let e = two_is a.file.now a.at in
    let low = c.byte_at-low.ensures in
    let high = c.byte_at-high.ensures in
    record { read = (omega arith, omega arith) }
