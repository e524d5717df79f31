-- A short number was read while its end was found, and is the word (numeral_word); whatever else stands there is left to `any_word`.
use mathlib.Core.Path.{◌∙◌}
use Rattle.text_words.proofs.Leading.{from_word}
use Rattle.text_words.proofs.Numerals.{numeral_word}
use Rattle.text_words.proofs.words.word_at.Goals as goal

pub returns-in-Some : goal.returns-in-Some
returns-in-Some c =
    let a = c.args in
    let text = a.text.now in
    let gap = c.gap_end-start in
    let sign = c.after_sign-from in
    let w = c.in-Some in
    let word = numeral_word text gap.result sign.result w.counted.next sign.ensures.signed w.counted.value w.ensures.counted in
    record { found = word ∙ from_word text a.at gap.result gap.ensures.passed }

pub returns-in-None : goal.returns-in-None
returns-in-None c =
    let gap = c.gap_end-start in
    let a = c.args in
    record { found = c.any_word.ensures.found ∙ from_word a.text.now a.at gap.result gap.ensures.passed }
