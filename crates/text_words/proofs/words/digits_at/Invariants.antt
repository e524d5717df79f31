-- The bytes passed are digits, at most five, and spell the value (Digits), so that the value stays below 10^5; the byte that ends them ends the word or not.
use Rattle.text_words.proofs.Numerals.{Digits}
use Rattle.text_words.proofs.words.digits_at.Given as goal

abbrev pub invariant-loop-i : goal.invariant-loop-i
invariant-loop-i l = Digits l.text l.from l.i l.value
