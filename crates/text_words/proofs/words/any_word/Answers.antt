-- Where the bytes of a word end is where `run_end` stopped; past its `-` they are read as a number (signed_word), and with no byte it is the line's end.
use mathlib.Core.Path.{sym}
use native.Mathlib.Omega.{arith}
use Rattle.text_words.specs.InnerPlaces.{in_word}
use Rattle.text_words.proofs.Leading.{past_within, from_none}
use Rattle.text_words.proofs.Numerals.{sign_on, signed_word}
use Rattle.text_words.proofs.words.any_word.Goals as goal

pub number_in-requires : goal.number_in-requires
number_in-requires c =
    let a = c.args in
    let r = c.run_end-end in
    let stop = r.ensures in
    let some = c.if-start-end.true in
    let within = past_within in_word a.text.now a.start (omega arith) in
    record { within = (sign_on a.text.now a.start a.from r.result c.requires.signed some, omega arith) }

pub returns-then-start-end : goal.returns-then-start-end
returns-then-start-end c =
    let a = c.args in
    let r = c.run_end-end in
    let stop = r.ensures in
    let some = c.if-start-end.true in
    let within = past_within in_word a.text.now a.start (omega arith) in
    record {
      found = signed_word a.text.now a.start a.from r.result c.requires.signed c.number_in.result stop.passed some (omega arith)
          c.number_in.ensures.counted;
    }

pub returns-else-start-end : goal.returns-else-start-end
returns-else-start-end c =
    let a = c.args in
    let r = c.run_end-end in
    record { found = sym (from_none a.text.now a.start r.result r.ensures.passed c.if-start-end.false) }
