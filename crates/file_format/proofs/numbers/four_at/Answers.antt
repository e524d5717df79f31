-- Four bytes are two numbers of two bytes, the higher of which counts 65,536 times (four_is).
use Rattle.std.proofs.Common.{arith}
use Rattle.file_format.proofs.Bits.{four_is}
use Rattle.file_format.proofs.numbers.four_at.Goals as goal

pub returns : goal.returns
returns c =
    let a = c.args in
    let e = four_is a.file.now a.at in
    let low = c.two_at-low.ensures in
    let high = c.two_at-high.ensures in
    record { read = omega arith }
