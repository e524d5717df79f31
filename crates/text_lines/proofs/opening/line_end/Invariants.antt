-- Where the line's bytes from i on end is where those from the start do (Passing): any byte but LF moves i by one, LF or the text's end stops.
use Rattle.text_words.specs.InnerPlaces.{in_line}
use Rattle.text_words.proofs.Leading.{Passing}
use Rattle.text_lines.proofs.opening.line_end.Given as goal

abbrev pub invariant-loop-i : goal.invariant-loop-i
invariant-loop-i l = Passing in_line l.text l.at l.i
