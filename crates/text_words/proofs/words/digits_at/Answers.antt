use Rattle.text_words.proofs.Numerals.{digits_more, digits_stop}
use Rattle.text_words.proofs.words.digits_at.Goals as goal

pub returns-then-byte-lt-ZERO : goal.returns-then-byte-lt-ZERO
returns-then-byte-lt-ZERO c = record { counted = digits_stop c.loop-i.invariant c.loop-i-test.true c.number_to.result c.number_to.ensures.counted }

pub loop-i-preserved : goal.loop-i-preserved
loop-i-preserved c =
    digits_more c.loop-i.invariant c.loop-i-test.true
    c.if-byte-lt-ZERO.false c.if-byte-gt-NINE.false c.if-i-from-gt4.false
