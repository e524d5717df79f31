-- Between two powers of 10 the number of digits is one (digits_are), and below the first of them it is 1.
use mathlib.Core.Path.{sym, ap}
use native.Mathlib.Omega.{arith}
use lib.ListN.{length}
use Rattle.text_write.proofs.Decimal.{decimal_small, digits_are}
use Rattle.text_write.proofs.bytes.width.Goals as goal

pub returns-then-value-gt9999 : goal.returns-then-value-gt9999
returns-then-value-gt9999 c = record { counted = digits_are c.args.value 4 (omega arith) (omega (arith, c.requires.small)) }

pub returns-then-value-gt999 : goal.returns-then-value-gt999
returns-then-value-gt999 c = record { counted = digits_are c.args.value 3 (omega arith) (omega arith) }

pub returns-then-value-gt99 : goal.returns-then-value-gt99
returns-then-value-gt99 c = record { counted = digits_are c.args.value 2 (omega arith) (omega arith) }

pub returns-then-value-gt9 : goal.returns-then-value-gt9
returns-then-value-gt9 c = record { counted = digits_are c.args.value 1 (omega arith) (omega arith) }

pub returns : goal.returns
returns c = record { counted = sym (ap length (decimal_small c.args.value (omega arith))) }
