-- Where the word's bytes from i on end is where those from the start do (Passing): one of them moves i by one, a space, LF or the text's end stops.
use Rattle.text_words.specs.InnerPlaces.{in_word}
use Rattle.text_words.proofs.Leading.{Passing}
use Rattle.text_words.proofs.words.run_end.Given as goal

abbrev pub invariant-loop-i : goal.invariant-loop-i
invariant-loop-i l = Passing in_word l.text l.at l.i
