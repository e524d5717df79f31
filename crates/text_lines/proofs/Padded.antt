-- Worked examples of numbers padded with zeros (rule 9.3): what the format makes of its own line and words, from both sides.
use Rattle.std.specs.Prelude.{None, Some}
use mathlib.Core.Path.{◌≡◌, refl}
use mathlib.Core.List.{List, [], ◌∷◌}
use Prim.Native.Nat.{ℕ}
use native.Mathlib.Omega.{arith}
use lib.IntN.{ℤ, pos, neg_ℤ}
use Rattle.text_words.specs.Words.{SPACE, MINUS, ZERO, LETTER-E, onto, pieces, filled, words, Spells, LiteralWord, unsigned_word, negated_word}
use Rattle.text_words.specs.InnerNumbers.{all_digits, spelt, is_number, number_of, plain_item, item_of, prepend, closed, entry, entries_of}
use Rattle.text_words.proofs.Spelled.{number_of_lem, spells, spells_same, read_variables}
use Rattle.text_lines.specs.Format.{QuantifierLine, e_line}

-- the digits 4 and 5 as bytes, and so many zeros
abbrev FOUR : ℕ
FOUR = 52

abbrev FIVE : ℕ
FIVE = 53

abbrev three_zeros : List ℕ
three_zeros = ZERO ∷ ZERO ∷ ZERO ∷ []

abbrev five_zeros : List ℕ
five_zeros = ZERO ∷ ZERO ∷ three_zeros

-- `e 0004 0005 0` is the existential block of 4 and 5
pub padded_block : QuantifierLine (LETTER-E ∷ SPACE ∷ ZERO ∷ ZERO ∷ ZERO ∷ FOUR ∷ SPACE ∷ ZERO ∷ ZERO ∷ ZERO ∷ FIVE ∷ SPACE ∷ ZERO ∷ []) (1 ∷ 4 ∷ 5 ∷ 0 ∷ [])
unfolding words filled pieces onto entries_of entry prepend closed item_of plain_item number_of is_number all_digits spelt
padded_block = e_line refl (read_variables refl)

-- `-0004` is a literal, `000` is 0, `-000` is no literal
pub padded_literal : LiteralWord (MINUS ∷ ZERO ∷ ZERO ∷ ZERO ∷ FOUR ∷ []) (neg_ℤ (pos 4))
unfolding number_of is_number all_digits spelt
padded_literal = negated_word {v = 4} (spells refl) (λ z. omega arith)

pub zeros_close : Spells three_zeros 0
unfolding number_of is_number all_digits spelt
zeros_close = spells refl

pub minus_zeros_refused : (z : ℤ) → ¬ LiteralWord (MINUS ∷ three_zeros) z
unfolding number_of is_number all_digits spelt
minus_zeros_refused z (unsigned_word {v = v} s some) = let q : None ≡ Some v = number_of_lem s in let no : ◌≡◌ {A = ℕ} 0 1 = cc in omega arith
minus_zeros_refused z (negated_word s some) = some (spells_same s zeros_close)

-- zeros count as digits: five are a number, six are none
pub five_digits : Spells five_zeros 0
unfolding number_of is_number all_digits spelt
five_digits = spells refl

pub sixth_digit_refused : (v : ℕ) → ¬ Spells (ZERO ∷ five_zeros) v
unfolding number_of is_number all_digits spelt
sixth_digit_refused v s = let q : None ≡ Some v = number_of_lem s in let no : ◌≡◌ {A = ℕ} 0 1 = cc in omega arith
