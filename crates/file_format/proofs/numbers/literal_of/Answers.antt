-- The machine reads the bits of the number, and the literal is what it reads (literal_is); below the middle that is the number itself.
use Rattle.std.proofs.Common.{◌≡◌, ◌-◌, ap, ◌∙◌, arith, w32, to_z}
use Rattle.file_format.proofs.Bits.{literal_is}
use Rattle.file_format.proofs.numbers.literal_of.Goals as goal

pub returns-then-number-lt2147483648 : goal.returns-then-number-lt2147483648
returns-then-number-lt2147483648 c = record { decoded = literal_is c.args.number }

pub returns-else-number-lt2147483648 : goal.returns-else-number-lt2147483648
returns-else-number-lt2147483648 c =
    let n = c.args.number in
    let f = c.ranges.number in
    let q : 4294967295 - (4294967295 - n) ≡ n = omega arith in
    record { decoded = ap (to_z w32) q ∙ literal_is n }
