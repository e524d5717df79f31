-- The magnitude of a signed 32-bit number and the negation of one, as the machine finds them, and the rows of a literal by its sign.
use Prim.Native.Nat.{ℕ, zero, suc, ◌+◌, ◌-◌, ◌≤◌, ◌<◌}
use mathlib.Core.Path.{◌≡◌, refl, sym, ap, ap₂, ◌∙◌, subst}
use mathlib.Core.Bool.{true, false, not}
use native.Mathlib.Omega.{arith}
use native.Mathlib.Nat.{not-suc-le-zero}
use native.Mathlib.Numerals.{add-one}
use borrow.Author.Tests.{ltb-true, le-ltb}
use lib.IntN.{ℤ, pos, negsuc, nat_abs, neg_ℤ, ◌-ℤ◌, +ℤ_idl}
use lib.Signed.{lt_z, non_neg}
use lib.Dec.{T, lit<}
use mir.Syntax.{w32}
use mir.Val.{SFits, Fits, to_z, of_z}
use mir.Facts.{to_z_pos, to_z-neg, to_z-of_z}
use Rattle.terms.specs.Literals.{variable_of}
use Rattle.terms.specs.InnerLiteralRows.{most_literal}
use Rattle.terms.specs.InnerLiteralRows.{row_by, row_of, other_row}

-- x, read back from a complement, is not negative, fits with one added, and is then the magnitude of z
pub record Complement (z x : ℤ) : Type 0 where
  pub nonneg : T (non_neg x)
  pub fits : Fits w32 (nat_abs x)
  pub fits_more : Fits w32 (nat_abs x + 1)
  pub is : nat_abs x + 1 ≡ nat_abs z

-- the complement of a negative number is one less than its magnitude
pub complement : (z : ℤ) → SFits w32 z → lt_z (to_z w32 (of_z w32 z)) (pos 0) ≡ true → Complement z (to_z w32 (4294967295 - of_z w32 z))
complement (pos n) f e = absurd (not-suc-le-zero (ltb-true n 0 (sym (ap (λ (x : ℤ). lt_z x (pos 0)) (to_z-of_z f)) ∙ e)))
complement (negsuc n) f e =
    let h : n < 2147483648 = f.sfits in
    let q : 4294967295 - (4294967296 - suc n) ≡ n = omega arith in
    subst (λ (x : ℤ). Complement (negsuc n) x) (sym (ap (to_z w32) q ∙ to_z_pos w32 h))
    (record { nonneg = tt; fits = record { fits = omega arith }; fits_more = record { fits = omega arith }; is = add-one n })

-- a number that is not negative fits as it is
pub whole : (z : ℤ) → SFits w32 z → lt_z (to_z w32 (of_z w32 z)) (pos 0) ≡ false
    → T (non_neg (to_z w32 (of_z w32 z))) × Fits w32 (nat_abs (to_z w32 (of_z w32 z)))
whole (pos n) f e =
    let h : n < 2147483648 = f.sfits in
    let fits : Fits w32 n = record { fits = omega arith } in
    subst (λ (x : ℤ). T (non_neg x) × Fits w32 (nat_abs x)) (sym (to_z_pos w32 h)) (tt, fits)
whole (negsuc n) f e = absurd (subst T (sym (ap (λ (x : ℤ). lt_z x (pos 0)) (to_z-neg w32 n f.sfits)) ∙ e) tt)

-- By the sign of a literal the first or the second row of its variable is its own, and the other one that of its negation.
row_signed : (z : ℤ) → (row_by (variable_of z) (lt_z z (pos 0)) ≡ row_of z) × (row_by (variable_of z) (not (lt_z z (pos 0))) ≡ other_row z)
unfolding row_of other_row
row_signed (pos n) = rw (le-ltb n 0 (omega arith)) (refl, omega arith)
row_signed (negsuc n) = (omega arith, refl)

-- the same, for a literal that is read back from its bits
module _ {z : ℤ} (fits : SFits w32 z) {half : ℕ} (size : half ≡ variable_of (to_z w32 (of_z w32 z))) where
  back : half ≡ variable_of z
  back = size ∙ ap variable_of (to_z-of_z fits)

  pub row_found : {row : ℕ} → row ≡ row_by half (lt_z (to_z w32 (of_z w32 z)) (pos 0)) → row ≡ row_of z
  row_found is = is ∙ ap₂ (λ (v : ℕ) (x : ℤ). row_by v (lt_z x (pos 0))) back (to_z-of_z fits) ∙ (row_signed z).0

  pub other_found : {row : ℕ} → row ≡ row_by half (not (lt_z (to_z w32 (of_z w32 z)) (pos 0))) → row ≡ other_row z
  other_found is = is ∙ ap₂ (λ (v : ℕ) (x : ℤ). row_by v (not (lt_z x (pos 0)))) back (to_z-of_z fits) ∙ (row_signed z).1

-- The negation of a number that has one: the machine finds it, and it fits.
pub negated : (v : ℕ) → v ≤ most_literal → pos 0 -ℤ to_z w32 v ≡ neg_ℤ (pos v)
negated v most = let p : v < 2147483648 = omega arith in ap (λ (z : ℤ). pos 0 -ℤ z) (to_z_pos w32 p) ∙ +ℤ_idl (neg_ℤ (pos v))

pub negated_fits : (v : ℕ) → v ≤ most_literal → SFits w32 (neg_ℤ (pos v))
negated_fits zero most = record { sfits = lit< tt }
negated_fits (suc v) most = record { sfits = omega arith }
