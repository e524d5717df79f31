-- Where the spaces from i on end is where those from the start do (Passing): a space moves i by one, any other byte or the text's end stops.
use Rattle.text_words.specs.InnerPlaces.{is_space}
use Rattle.text_words.proofs.Leading.{Passing}
use Rattle.text_words.proofs.words.gap_end.Given as goal

abbrev pub invariant-loop-i : goal.invariant-loop-i
invariant-loop-i l = Passing is_space l.text l.at l.i
