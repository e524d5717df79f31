-- What the reader found is the next word of the line (found_of), and its number with its sign is its item (found_item); the line's end is no entry.
use Rattle.std.specs.Prelude.{Some}
use mathlib.Core.Path.{ap, ◌∙◌}
use Rattle.text_words.specs.InnerPlaces.{signed_item, wordless, strange}
use Rattle.text_words.proofs.Lines.{found_of, end_of}
use Rattle.text_words.proofs.Entries.{found_item, not_item, found_entry}
use Rattle.text_words.proofs.items.entry_at.Goals as goal

pub returns-in-End : goal.returns-in-End
returns-in-End c =
    let a = c.args in
    record { read = wordless (end_of a.text.now a.at c.word_in.ensures.found c.in-End.is).none }

pub returns-in-None : goal.returns-in-None
returns-in-None c =
    let a = c.args in
    let w = c.in-Found in
    let found = found_of a.text.now a.at c.word_in.ensures.found w.is in
    let item = found_item a.text.now a.at c.word_in.ensures.found w.is in
    record { read = strange found.first (item ∙ ap (signed_item w.negative) c.in-None.is ∙ not_item w.negative) }

pub returns-in-Some : goal.returns-in-Some
returns-in-Some c =
    let a = c.args in
    let w = c.in-Found in
    let found = found_of a.text.now a.at c.word_in.ensures.found w.is in
    let item = found_item a.text.now a.at c.word_in.ensures.found w.is ∙ ap (signed_item w.negative) c.in-Some.is in
    record { read = found_entry found (signed_item w.negative (Some c.in-Some.value)) item c.numbered.result c.numbered.ensures.read }
