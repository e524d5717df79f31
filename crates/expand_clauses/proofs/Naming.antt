-- Literals by their sign: which x makes true, and the names that they have in a copy.
use Prim.Native.Nat.{ℕ, zero, suc, ◌≤◌, ◌<◌}
use mathlib.Core.Path.{◌≡◌, refl, sym, ap, ◌∙◌, subst}
use mathlib.Core.Bool.{Bool, true, false, cond, not, ◌&&◌}
use mathlib.Core.Logic.{◌≢◌}
use native.Mathlib.Omega.{arith}
use native.Mathlib.Nat.{not-suc-le-zero}
use borrow.Author.Tests.{ltb-true, eq-eqb, ne_eqb}
use lib.Dec.{T, lit<}
use lib.IntN.{ℤ, pos, negsuc, neg_ℤ, ◌-ℤ◌, +ℤ_idl}
use lib.Signed.{lt_z}
use mir.Syntax.{w32}
use mir.Val.{SFits, to_z}
use mir.Facts.{to_z_pos}
use Rattle.terms.specs.Literals.{variable_of}
use Rattle.expand_clauses.specs.Expansion.{made_true}
use Rattle.expand_clauses.specs.InnerCopies.{renamed}
use Rattle.expand_clauses.specs.InnerCopied.{expanded_variables}

and-false : (b : Bool) → (b && false) ≡ false
and-false true = refl
and-false false = refl

and_true : (b : Bool) → (b && true) ≡ b
and_true true = refl
and_true false = refl

-- x makes no literal of another variable true
pub made_other : (value : Bool) (x : ℕ) (z : ℤ) → variable_of z ≢ x → false ≡ made_true value x z
unfolding made_true
made_other value x (pos v) other = sym (ap (λ b. value && b) (ne_eqb v x other) ∙ and-false value)
made_other value x (negsuc v) other = sym (ap (λ b. not value && b) (ne_eqb (suc v) x other) ∙ and-false (not value))

-- and its own by its sign
module _ {y z : ℤ} (same : y ≡ z) where
  pub made_negative : (value : Bool) (x : ℕ) → lt_z y (pos 0) ≡ true → variable_of z ≡ x → not value ≡ made_true value x z
  unfolding made_true
  made_negative value x t is = of z (sym (ap (λ (w : ℤ). lt_z w (pos 0)) same) ∙ t) is
    where
      of : (z : ℤ) → lt_z z (pos 0) ≡ true → variable_of z ≡ x → not value ≡ made_true value x z
      of (pos v) t is = absurd (not-suc-le-zero (ltb-true v 0 t))
      of (negsuc v) t is = sym (ap (λ b. not value && b) (eq-eqb (suc v) x is) ∙ and_true (not value))

  pub made_positive : (value : Bool) (x : ℕ) → lt_z y (pos 0) ≡ false → variable_of z ≡ x → value ≡ made_true value x z
  unfolding made_true
  made_positive value x t is = of z (sym (ap (λ (w : ℤ). lt_z w (pos 0)) same) ∙ t) is
    where
      of : (z : ℤ) → lt_z z (pos 0) ≡ false → variable_of z ≡ x → value ≡ made_true value x z
      of (pos v) t is = sym (ap (λ b. value && b) (eq-eqb v x is) ∙ and_true value)
      of (negsuc v) t is = absurd (subst T t tt)

  -- a member has the name of its copy, in its own sign
  pub renamed_negative : (copy : ℕ → ℕ) {k : ℕ} {r : ℤ} → lt_z y (pos 0) ≡ true → k ≡ copy (variable_of z) → k ≢ 0
      → r ≡ neg_ℤ (pos k) → r ≡ renamed copy z
  unfolding renamed
  renamed_negative copy {k} {r} t is some e = of z (sym (ap (λ (w : ℤ). lt_z w (pos 0)) same) ∙ t) is
    where
      of : (z : ℤ) → lt_z z (pos 0) ≡ true → k ≡ copy (variable_of z) → r ≡ renamed copy z
      of (pos v) t is = absurd (not-suc-le-zero (ltb-true v 0 t))
      of (negsuc v) t is =
          e ∙ ap (λ (c : ℕ). neg_ℤ (pos c)) is
          ∙ sym (ap (λ b. cond b (negsuc v) (neg_ℤ (pos (copy (suc v))))) (ne_eqb (copy (suc v)) 0 (λ q. some (is ∙ q))))

  pub renamed_positive : (copy : ℕ → ℕ) {k : ℕ} {r : ℤ} → lt_z y (pos 0) ≡ false → k ≡ copy (variable_of z) → k ≢ 0
      → r ≡ pos k → r ≡ renamed copy z
  unfolding renamed
  renamed_positive copy {k} {r} t is some e = of z (sym (ap (λ (w : ℤ). lt_z w (pos 0)) same) ∙ t) is
    where
      of : (z : ℤ) → lt_z z (pos 0) ≡ false → k ≡ copy (variable_of z) → r ≡ renamed copy z
      of (pos v) t is = e ∙ ap (λ (c : ℕ). pos c) is ∙ sym (ap (λ b. cond b (pos v) (pos (copy v))) (ne_eqb (copy v) 0 (λ q. some (is ∙ q))))
      of (negsuc v) t is = absurd (subst T t tt)

-- any other literal stays
pub renamed_same : (copy : ℕ → ℕ) (z : ℤ) → copy (variable_of z) ≡ 0 → z ≡ renamed copy z
unfolding renamed
renamed_same copy (pos v) none = sym (ap (λ b. cond b (pos v) (pos (copy v))) (eq-eqb (copy v) 0 none))
renamed_same copy (negsuc v) none = sym (ap (λ b. cond b (negsuc v) (neg_ℤ (pos (copy (suc v))))) (eq-eqb (copy (suc v)) 0 none))

-- the negation of a number as the machine makes it, and that it fits
pub negated : (v : ℕ) → v ≤ expanded_variables → pos 0 -ℤ to_z w32 v ≡ neg_ℤ (pos v)
negated v h = let p : v < 2147483648 = omega arith in ap (λ (z : ℤ). pos 0 -ℤ z) (to_z_pos w32 p) ∙ +ℤ_idl (neg_ℤ (pos v))

pub negated_fits : (v : ℕ) → v ≤ expanded_variables → SFits w32 (neg_ℤ (pos v))
negated_fits zero h = record { sfits = lit< tt }
negated_fits (suc v) h = record { sfits = omega arith }
