-- Rows of literals and tables of marks: a row is of one literal, the other row is that of the complement, and the unmarked rows fall as marks are added.
use Prim.Native.Nat.{ℕ, zero, suc, ◌≤◌, ◌<◌}
use mathlib.Core.Path.{◌≡◌, refl, ap}
use mathlib.Core.Bool.{Bool, true, false}
use mathlib.Core.List.{List, [], ◌∷◌}
use mathlib.Core.Logic.{◌≢◌}
use native.Mathlib.Omega.{arith}
use lib.IntN.{ℤ, pos, negsuc, neg_ℤ}
use lib.ListN.{length, get_or, set}
use Rattle.terms.specs.Literals.{variable_of}
use Rattle.terms.specs.InnerLiteralRows.{row_of, other_row}
use Rattle.terms.proofs.Common.{clash}
use Rattle.path_resolution.specs.InnerWalk.{unmarked}

-- A row is of one literal, and so is an other row.
pub row_one : (a b : ℤ) → row_of a ≡ row_of b → a ≡ b
unfolding row_of
row_one (pos v) (pos w) q = ap pos (omega arith)
row_one (pos v) (negsuc w) q = absurd (omega arith)
row_one (negsuc v) (pos w) q = absurd (omega arith)
row_one (negsuc v) (negsuc w) q = let e : v ≡ w = omega arith in ap negsuc e

pub other_one : (a b : ℤ) → other_row a ≡ other_row b → a ≡ b
unfolding other_row
other_one (pos v) (pos w) q = let e : v ≡ w = omega arith in ap pos e
other_one (pos v) (negsuc w) q = absurd (omega arith)
other_one (negsuc v) (pos w) q = absurd (omega arith)
other_one (negsuc v) (negsuc w) q = let e : v ≡ w = omega arith in ap negsuc e

-- The other row is that of the complement.
pub row_complement : (a b : ℤ) → row_of b ≡ other_row a → b ≡ neg_ℤ a
unfolding row_of other_row
row_complement (pos zero) (pos w) q = absurd (omega arith)
row_complement (pos (suc v)) (pos w) q = absurd (omega arith)
row_complement (pos zero) (negsuc w) q = absurd (omega arith)
row_complement (pos (suc v)) (negsuc w) q = let e : w ≡ v = omega arith in ap negsuc e
row_complement (negsuc v) (pos w) q = let e : w ≡ suc v = omega arith in ap pos e
row_complement (negsuc v) (negsuc w) q = absurd (omega arith)

pub complement_row : (a b : ℤ) → variable_of b ≢ 0 → b ≡ neg_ℤ a → row_of b ≡ other_row a
unfolding row_of other_row
complement_row (pos zero) b some q = absurd (some (ap variable_of q))
complement_row (pos (suc v)) b some q = ap row_of q
complement_row (negsuc v) b some q = ap row_of q

pub complement_variable : (a : ℤ) → variable_of (neg_ℤ a) ≡ variable_of a
complement_variable (pos zero) = refl
complement_variable (pos (suc v)) = refl
complement_variable (negsuc v) = refl

-- More marks leave no more rows unmarked, and one mark more leaves one less.
pub unmarked_less : (a b : List Bool) → length b ≡ length a → ((row : ℕ) → get_or a row false ≡ true → get_or b row false ≡ true)
    → unmarked b ≤ unmarked a
unfolding unmarked
unmarked_less [] [] size kept = omega arith
unmarked_less [] (c ∷ b) size kept = absurd (omega arith)
unmarked_less (c ∷ a) [] size kept = absurd (omega arith)
unmarked_less (true ∷ a) (true ∷ b) size kept = unmarked_less a b (omega arith) (λ row. kept (suc row))
unmarked_less (true ∷ a) (false ∷ b) size kept = absurd (clash (kept 0 refl) refl)
unmarked_less (false ∷ a) (true ∷ b) size kept = omega (arith, unmarked_less a b (omega arith) (λ row. kept (suc row)))
unmarked_less (false ∷ a) (false ∷ b) size kept = omega (arith, unmarked_less a b (omega arith) (λ row. kept (suc row)))

pub unmarked_set : (a : List Bool) (row : ℕ) → row < length a → get_or a row false ≡ false → unmarked (set a row true) < unmarked a
unfolding unmarked
unmarked_set [] row l q = absurd (omega arith)
unmarked_set (true ∷ a) zero l q = absurd (clash refl q)
unmarked_set (false ∷ a) zero l q = omega arith
unmarked_set (true ∷ a) (suc row) l q = unmarked_set a row (omega arith) q
unmarked_set (false ∷ a) (suc row) l q = omega (arith, unmarked_set a row (omega arith) q)
