-- A number word has one to five bytes (number_short, number_long), and is then what its digits spell (number_spelt).
use mathlib.Core.Path.{sym, ◌∙◌}
use native.Mathlib.Omega.{arith}
use lib.Seq.{slice, length-slice}
use Rattle.text_words.proofs.Numbers.{number_short, number_long, number_spelt}
use Rattle.text_words.proofs.words.number_in.Goals as goal

pub returns-then-size-lt1 : goal.returns-then-size-lt1
returns-then-size-lt1 c =
    let a = c.args in
    let word = slice a.start a.end a.text.now in
    let size = length-slice a.start a.end a.text.now c.requires.within.1 in
    record { counted = sym (number_short word (omega arith)) }

pub returns-then-size-gt5 : goal.returns-then-size-gt5
returns-then-size-gt5 c =
    let a = c.args in
    let word = slice a.start a.end a.text.now in
    let size = length-slice a.start a.end a.text.now c.requires.within.1 in
    record { counted = sym (number_long word (omega arith)) }

pub returns : goal.returns
returns c =
    let a = c.args in
    let word = slice a.start a.end a.text.now in
    let size = length-slice a.start a.end a.text.now c.requires.within.1 in
    record { counted = c.digits_in.ensures.counted ∙ sym (number_spelt word (omega arith) (omega arith)) }
