-- What words say, by computing: for the words of Words it is the same (proofs/Spelled).
use Rattle.std.specs.Prelude.{ℕ, ◌+◌, ◌-◌, ◌*◌, Bool, true, cond, ◌&&◌, List, [], ◌∷◌, eqb, leb, ℤ, pos, neg_ℤ, length, None, Some, Option as Maybe}
use Rattle.std.proofs.Math.Option.{Option, none, some}
use Rattle.text_words.specs.Words.{MINUS, ZERO}

-- The last of the digits.
abbrev pub NINE : ℕ
NINE = 57

-- Digits, and the number that they spell after the number `before`.
unfoldable pub all_digits : List ℕ → Bool
all_digits [] = true
all_digits (byte ∷ bytes) = (leb ZERO byte && leb byte NINE) && all_digits bytes

unfoldable pub spelt : ℕ → List ℕ → ℕ
spelt before [] = before
spelt before (digit ∷ digits) = spelt (before * 10 + (digit - ZERO)) digits

-- What a number word is, and which number it is: one to five digits, leading zeros among them.
unfoldable pub is_number : List ℕ → Bool
is_number word = (leb 1 (length word) && leb (length word) 5) && all_digits word

-- A word as a number, if it is one.
abbrev pub Number : Type 0
Number = Maybe ℕ

unfoldable pub number_of : List ℕ → Number
number_of word = cond (is_number word) (Some (spelt 0 word)) None

-- A word of a quantifier or clause line: the closing 0, a nonzero number, a nonzero number that carries `-`, or none of these.
pub data Item : Type 0 where
  Closing : Item
  Plain : ℕ → Item
  Negated : ℕ → Item
  Other : Item

unfoldable pub plain_item : Number → Item
plain_item (Some value) = cond (eqb value 0) Closing (Plain value)
plain_item None = Other

unfoldable pub negated_item : Number → Item
negated_item (Some value) = cond (eqb value 0) Other (Negated value)
negated_item None = Other

unfoldable pub item_of : List ℕ → Item
item_of [] = Other
item_of (byte ∷ bytes) = cond (eqb byte MINUS) (negated_item (number_of bytes)) (plain_item (number_of (byte ∷ bytes)))

-- How a kind of line takes its numbers: as which entry a number stands in the table, and one that carries `-`, if it may.
pub record Kind (A : Type 0) : Type 0 where
  pub positive : ℕ → A
  pub negative : ℕ → Option A

-- The entries that the words of a line are: the last number, and no other, is 0.
unfoldable pub prepend : {A : Type 0} → Option A → Option (List A) → Option (List A)
prepend none later = none
prepend (some entry) none = none
prepend (some entry) (some later) = some (entry ∷ later)

unfoldable pub closed : {A : Type 0} → A → List (List ℕ) → Option (List A)
closed zero [] = some (zero ∷ [])
closed zero (word ∷ more) = none

unfoldable pub entry : {A : Type 0} → Kind A → Item → List (List ℕ) → Option (List A) → Option (List A)
entry kind Closing more later = closed (kind.positive 0) more
entry kind (Plain value) more later = prepend (some (kind.positive value)) later
entry kind (Negated value) more later = prepend (kind.negative value) later
entry kind Other more later = none

unfoldable pub entries_of : {A : Type 0} → Kind A → List (List ℕ) → Option (List A)
entries_of kind [] = none
entries_of kind (word ∷ more) = entry kind (item_of word) more (entries_of kind more)

-- Quantifier lines hold variables, none of which carries `-`; clause lines hold literals.
abbrev pub variables : Kind ℕ
variables = record { positive = λ v. v; negative = λ v. none }

abbrev pub literals : Kind ℤ
literals = record { positive = pos; negative = λ v. some (neg_ℤ (pos v)) }
