-- A number below 10 is one digit (decimal_small); any other has those of its tenth, which the call on the lesser number puts, and one more (decimal_large).
use native.Mathlib.Omega.{arith}
use Prim.Native.Nat.{◌/◌}
use Rattle.text_write.proofs.Decimal.{decimal_small, decimal_large, digits_most}
use Rattle.text_write.proofs.Stores.{wrote_as, wrote_more}
use Rattle.text_write.proofs.bytes.+put_digits.Goals as goal

pub returns-then-value-lt10 : goal.returns-then-value-lt10
returns-then-value-lt10 t c =
    record { wrote = wrote_as (decimal_small c.args.value (omega (arith, c.if-value-lt10.true))) c.put_byte.ensures.wrote }

pub put_byte-requires-2 : goal.put_byte-requires-2
put_byte-requires-2 t c =
    let pre = c.requires.small in
    let d = digits_most (c.args.value / 10) 4 (omega (arith, pre.1)) in
    record { near = omega (arith, pre.0, c.put_digits-next.ensures.wrote.end, d) }

pub returns : goal.returns
returns t c =
    record {
      wrote =
          wrote_as (decimal_large c.args.value (omega (arith, c.if-value-lt10.false)))
          (wrote_more c.put_digits-next.ensures.wrote c.put_byte-2.ensures.wrote);
    }
