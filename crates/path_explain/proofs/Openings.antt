-- The literals of x with which a way may begin, told by their variable and their sign.
use Prim.Native.Nat.{ℕ, zero, suc}
use mathlib.Core.Path.{◌≡◌, refl, sym, ap, subst, ◌∙◌}
use mathlib.Core.Bool.{Bool, true, false}
use mathlib.Core.Logic.{◌≢◌, ⊎_elim}
use native.Mathlib.Omega.{arith}
use lib.IntN.{ℤ}
use Rattle.terms.specs.Literals.{variable_of}
use Rattle.forest_tables.specs.Formula.{signed}
use Rattle.forest_tables.specs.InnerRows.{Tells}
use Rattle.forest_entries.specs.InnerFlags.{Sided, side_by}
use Rattle.forest_entries.specs.declared.Side.{Side}
use Rattle.forest_entries.specs.declared.Signs.{Signs}
use Rattle.forest_entries.proofs.Sides.{signed_variable, side_has, side_not}
use Rattle.path_explain.specs.InnerWays.{OpensBy}

-- Such a literal is one of x ...
pub opens_variable : (signs : Signs) (x : ℕ) (l : ℤ) → OpensBy signs x l → variable_of l ≡ x
opens_variable signs x l = go signs
  where
    one : (sign : Bool) → l ≡ signed sign x → variable_of l ≡ x
    one sign q = ap variable_of q ∙ signed_variable sign x

    go : (signs : Signs) → OpensBy signs x l → variable_of l ≡ x
    go Signs.Either = ⊎_elim (one true) (one false)
    go Signs.Positive = one true
    go Signs.Negative = one false

-- ... and has one sign, ...
signs_apart : (x : ℕ) → x ≢ 0 → signed true x ≡ signed false x → ⊥
unfolding signed
signs_apart zero some q = some refl
signs_apart (suc x) some q = let z : ◌≡◌ {A = ℕ} 0 1 = cc in omega arith

-- ... which tells whether it is wanted.
pub opens_told : (signs : Signs) (side : Side) (x : ℕ) (l : ℤ) → x ≢ 0 → variable_of l ≡ x → Sided side (λ sign. l ≡ signed sign (variable_of l))
    → (b : Bool) → b ≡ side_by signs side → Tells b (OpensBy signs x l)
opens_told signs side x l some own sided = go
  where
    by_x : Sided side (λ sign. l ≡ signed sign x)
    by_x = subst (λ v. Sided side (λ sign. l ≡ signed sign v)) own sided

    go : (b : Bool) → b ≡ side_by signs side → Tells b (OpensBy signs x l)
    go true q = side_has signs side (λ sign. l ≡ signed sign x) (sym q) by_x
    go false q = side_not signs side (λ sign. l ≡ signed sign x) (sym q) by_x (λ p n. signs_apart x some (sym p ∙ n))
