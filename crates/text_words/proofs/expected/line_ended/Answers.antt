-- A word that was found is left of the line; the line's end is its LF where a byte stands there (fed), and the text's end where none does (over).
use Rattle.text_words.specs.InnerPlaces.{words_left, no_feed}
use Rattle.text_words.proofs.Lines.{found_of, end_of}
use Rattle.text_words.proofs.expected.line_ended.Goals as goal

pub returns-in-Found : goal.returns-in-Found
returns-in-Found c =
    let a = c.args in
    record { looked = words_left (found_of a.text.now a.at c.word_in.ensures.found c.in-Found.is).first }

pub returns-then-stop-text : goal.returns-then-stop-text
returns-then-stop-text c =
    let a = c.args in
    let e = end_of a.text.now a.at c.word_in.ensures.found c.in-End.is in
    record { looked = (e.none, e.fed c.if-stop-text.true) }

pub returns-else-stop-text : goal.returns-else-stop-text
returns-else-stop-text c =
    let a = c.args in
    let e = end_of a.text.now a.at c.word_in.ensures.found c.in-End.is in
    record { looked = no_feed (e.over c.if-stop-text.false) }
