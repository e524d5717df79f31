-- The numbers up to i are stored (Upto), each with its space; six digits at most keep each within eight bytes.
use mathlib.Core.Bool.{true}
use Rattle.text_write.proofs.Stores.{Upto}
use Rattle.listing_lines.proofs.Spelt.{numbers_script}
use Rattle.listing_lines.proofs.put_numbers.Given as goal

abbrev pub invariant-loop-number : goal.invariant-loop-number
invariant-loop-number l = Upto numbers_script l.list l.initial.out l.out l.at l.number-index l.next true
