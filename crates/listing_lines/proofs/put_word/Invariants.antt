-- The bytes up to i are stored (Upto), and each pass stores one more.
use mathlib.Core.Bool.{true}
use Rattle.text_write.proofs.Stores.{Upto}
use Rattle.listing_lines.proofs.Spelt.{word_script}
use Rattle.listing_lines.proofs.put_word.Given as goal

abbrev pub invariant-loop-byte : goal.invariant-loop-byte
invariant-loop-byte l = Upto word_script l.word l.initial.out l.out l.at l.byte-index l.next true
