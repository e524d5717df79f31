-- A clause tested literal by literal, and whether it has a copy.
use Prim.Native.Nat.{ℕ}
use mathlib.Core.Path.{◌≡◌, refl, sym, ap, ◌∙◌}
use mathlib.Core.Bool.{Bool, true, false, not, ◌&&◌, ◌||◌}
use mathlib.Core.List.{List, [], ◌∷◌}
use lib.Dec.{eqb}
use lib.IntN.{ℤ}
use Rattle.std.specs.List.{list_any}
use Rattle.terms.specs.Literals.{variable_of}
use Rattle.formula.specs.Meaning.{always_true}
use Rattle.expand_clauses.specs.Expansion.{made_true, satisfied, has_x}
use Rattle.expand_clauses.specs.InnerCopies.{has_member, has_copy}

-- x satisfies a clause exactly if it makes some literal true
pub satisfied_any : (value : Bool) (x : ℕ) (clause : List ℤ) → list_any (made_true value x) clause ≡ satisfied value x clause
unfolding satisfied
satisfied_any value x [] = refl
satisfied_any value x (literal ∷ more) = ap (λ b. made_true value x literal || b) (satisfied_any value x more)

-- a clause has x or a member
abbrev pub touched : ℕ → (ℕ → ℕ) → List ℤ → Bool
touched x copy clause = has_x x clause || has_member copy clause

-- a variable is x or a member
abbrev pub touches : ℕ → (ℕ → ℕ) → ℕ → Bool
touches x copy v = eqb v x || not (eqb (copy v) 0)

pub touched_any : (x : ℕ) (copy : ℕ → ℕ) (clause : List ℤ) → list_any (λ literal. touches x copy (variable_of literal)) clause ≡ touched x copy clause
unfolding has_x has_member
touched_any x copy [] = refl
touched_any x copy (literal ∷ more) =
    ap (λ b. touches x copy (variable_of literal) || b) (touched_any x copy more)
    ∙ go (eqb (variable_of literal) x) (not (eqb (copy (variable_of literal)) 0)) (has_x x more) (has_member copy more)
  where
    go : (a b c d : Bool) → (a || b) || (c || d) ≡ (a || c) || (b || d)
    go true b c d = refl
    go false true true d = refl
    go false true false d = refl
    go false false c d = refl

-- Whether a clause has a copy, test by test.
module _ (value : Bool) (x : ℕ) (copy : ℕ → ℕ) (clause : List ℤ) where
  pub copy_always : always_true clause ≡ true → false ≡ has_copy value x copy clause
  unfolding has_copy
  copy_always a = sym (ap (λ b. not b && not (satisfied value x clause) && (not value || touched x copy clause)) a)

  module _ (never : always_true clause ≡ false) where
    first : has_copy value x copy clause ≡ (not (satisfied value x clause) && (not value || touched x copy clause))
    unfolding has_copy
    first = ap (λ b. not b && not (satisfied value x clause) && (not value || touched x copy clause)) never

    pub copy_satisfied : satisfied value x clause ≡ true → false ≡ has_copy value x copy clause
    copy_satisfied s = sym (first ∙ ap (λ b. not b && (not value || touched x copy clause)) s)

    module _ (open' : satisfied value x clause ≡ false) where
      second : has_copy value x copy clause ≡ (not value || touched x copy clause)
      second = first ∙ ap (λ b. not b && (not value || touched x copy clause)) open'

      pub copy_touched : {t : Bool} → value ≡ true → t ≡ touched x copy clause → t ≡ has_copy value x copy clause
      copy_touched v q = q ∙ sym (second ∙ ap (λ b. not b || touched x copy clause) v)

      pub copy_first : value ≡ false → true ≡ has_copy value x copy clause
      copy_first v = sym (second ∙ ap (λ b. not b || touched x copy clause) v)
