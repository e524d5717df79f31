-- One law for each way through: `e`, `a`, a number with LF, a number alone (entry_e, entry_a, entry_last, entry_more); runs are joined by wrote_more.
use native.Mathlib.Omega.{arith}
use Rattle.text_write.proofs.Decimal.{digits_most}
use Rattle.text_write.proofs.Stores.{wrote_as, wrote_more, entry_e, entry_a, entry_last, entry_more}
use Rattle.text_write.proofs.writing.put_entry.Goals as goal

pub returns-then-entry-eq1 : goal.returns-then-entry-eq1
returns-then-entry-eq1 c =
    let a = c.args in
    record { wrote = wrote_as (entry_e a.first a.entry c.if-first.true c.if-entry-eq1.true) c.put_byte.ensures.wrote }

pub returns-then-first : goal.returns-then-first
returns-then-first c =
    let a = c.args in
    record { wrote = wrote_as (entry_a a.first a.entry c.if-first.true c.if-entry-eq1.false) c.put_byte-then-first.ensures.wrote }

pub put_byte-requires-then-entry-eq0 : goal.put_byte-requires-then-entry-eq0
put_byte-requires-then-entry-eq0 c =
    let d = digits_most c.args.entry 4 c.requires.small.1 in
    record { near = omega (arith, c.requires.small.0, c.put_byte-start.ensures.wrote.end, c.put_number-end.ensures.wrote.end, d) }

pub returns-then-entry-eq0 : goal.returns-then-entry-eq0
returns-then-entry-eq0 c =
    let a = c.args in
    record {
      wrote = wrote_as (entry_last a.first a.entry c.if-first.false c.if-entry-eq0.true)
          (wrote_more (wrote_more c.put_byte-start.ensures.wrote c.put_number-end.ensures.wrote) c.put_byte-then-entry-eq0.ensures.wrote);
    }

pub returns : goal.returns
returns c =
    let a = c.args in
    record {
      wrote = wrote_as (entry_more a.first a.entry c.if-first.false c.if-entry-eq0.false)
          (wrote_more c.put_byte-start.ensures.wrote c.put_number-end.ensures.wrote);
    }
