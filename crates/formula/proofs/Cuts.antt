-- Laws of `cut`: the first list of a table, and a table with no list.
use Prim.Native.Nat.{ℕ, zero, suc, ◌<◌, suc-le-suc}
use mathlib.Core.Path.{◌≡◌, refl, ap, ◌∙◌}
use mathlib.Core.Bool.{Bool, true, false, cond}
use mathlib.Core.List.{List, [], ◌∷◌}
use native.Mathlib.Nat.{not-suc-le-zero, le_of_suc-le-suc}
use native.Mathlib.Omega.{arith}
use lib.ListN.{length, get_or, take, drop}
use Rattle.formula.specs.Tables.{cut, push}

module _ {A : Type 0} (is_nought : A → Bool) (nought : A) where
  -- Up to its first 0 a table is its first list, and what follows that 0 holds the rest.
  pub cut_closed : (m : ℕ) (xs : List A) → m < length xs → ((e : ℕ) → e < m → is_nought (get_or xs e nought) ≡ false)
      → is_nought (get_or xs m nought) ≡ true → cut is_nought xs ≡ take m xs ∷ cut is_nought (drop (suc m) xs)
  unfolding cut
  cut_closed m [] l before here = absurd (not-suc-le-zero l)
  cut_closed zero (x ∷ xs) l before here = ap (λ b. cond b ([] ∷ cut is_nought xs) (push x (cut is_nought xs))) here
  cut_closed (suc m) (x ∷ xs) l before here =
      ap (λ b. cond b ([] ∷ cut is_nought xs) (push x (cut is_nought xs))) (before zero (omega arith))
      ∙ ap (push x) (cut_closed m xs (le_of_suc-le-suc l) (λ e l. before (suc e) (suc-le-suc l)) here)

  -- A table with no 0 holds no list.
  pub cut_unclosed : (xs : List A) → ((e : ℕ) → e < length xs → is_nought (get_or xs e nought) ≡ false) → cut is_nought xs ≡ []
  unfolding cut
  cut_unclosed [] before = refl
  cut_unclosed (x ∷ xs) before =
      ap (λ b. cond b ([] ∷ cut is_nought xs) (push x (cut is_nought xs))) (before zero (omega arith))
      ∙ ap (push x) (cut_unclosed xs (λ e l. before (suc e) (suc-le-suc l)))
