-- Where the first digit has room the digits are put; where it has none, nothing is stored and the width says where they end (wrote_out).
use native.Mathlib.Omega.{arith}
use Rattle.text_write.specs.Numbers.{decimal}
use Rattle.text_write.proofs.Decimal.{digits_most}
use Rattle.text_write.proofs.Stores.{wrote_out}
use Rattle.text_write.proofs.bytes.put_number.Goals as goal

pub overflow_add-result : goal.overflow_add-result
overflow_add-result c =
    let most = digits_most c.args.value 4 (omega (arith, c.requires.small.1)) in
    omega (arith, c.requires.small.0, c.width.ensures.counted, most)

pub returns : goal.returns
returns c =
    let a = c.args in
    record { wrote = wrote_out (decimal a.value) a.out.now a.at c.width.ensures.counted c.if-at-out.false }
