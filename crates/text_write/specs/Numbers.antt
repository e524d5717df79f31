-- Numbers as digits (rule 9.3, rule 9.4): which number digits spell, and the digits that are written for a number.
use Rattle.std.specs.Prelude.{ℕ, zero, suc, ◌+◌, ◌*◌, ◌/◌, ◌%◌, ◌<◌, ◌≤◌, true, false, List, [], ◌∷◌, ◌++◌, ◌≢◌, ltb, length, get_or}
use Rattle.text_write.specs.Texts.{ZERO}

-- Digits spell a number: with one more digit behind them, ten times the number and the digit.
pub data Digits : List ℕ → ℕ → Type 0 where
  no_digit : Digits [] 0
  digit : {word : List ℕ} {v d : ℕ} → Digits word v → d < 10 → Digits (word ++ ((ZERO + d) ∷ [])) (v * 10 + d)

-- The digits of a number as they are written: at least one, and no zero in front of others.
pub record Unpadded (word : List ℕ) (v : ℕ) : Type 0 where
  pub digits : Digits word v
  pub some : 1 ≤ length word
  pub unpadded : 2 ≤ length word → get_or word 0 0 ≢ ZERO

-- The word that is written for v. It is unpadded, and no other word is (proofs/Decimal: decimal_is, decimal_only); that is all that it says. It is
-- found from the right: the digits of a tenth of the number, and one more; no more than the number given first.
unfoldable pub digits_of : ℕ → ℕ → List ℕ
digits_of zero value = []
digits_of (suc most) value = elim (ltb value 10) [ true ↦ (ZERO + value) ∷ [] | false ↦ digits_of most (value / 10) ++ ((ZERO + value % 10) ∷ []) ]

unfoldable pub decimal : ℕ → List ℕ
decimal v = digits_of (suc v) v
