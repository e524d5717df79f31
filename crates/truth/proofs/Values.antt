-- An assignment with one value put to another.
use Prim.Native.Nat.{ℕ}
use mathlib.Core.Path.{◌≡◌, sym, ◌∙◌, ap}
use mathlib.Core.Bool.{Bool}
use mathlib.Core.Logic.{◌≢◌, by_cases}
use native.Mathlib.Decide.{ℕ_discrete}
use borrow.Author.Tests.{eq-eqb, ne_eqb}
use Rattle.truth.specs.Strategies.{Assignment}
use Rattle.truth.specs.Game.{put}

module _ (x : ℕ) (b : Bool) where
  pub put_at : (u : Assignment) {v : ℕ} → v ≡ x → put x b u v ≡ b
  unfolding put
  put_at u {v} e = rw (eq-eqb v x e)

  pub put_other : (u : Assignment) {v : ℕ} → v ≢ x → put x b u v ≡ u v
  unfolding put
  put_other u {v} n = rw (ne_eqb v x n)

  -- what agrees but at x agrees with x put
  pub put_same : (u w : Assignment) (v : ℕ) → (v ≢ x → u v ≡ w v) → put x b u v ≡ put x b w v
  put_same u w v same = by_cases (ℕ_discrete v x) (λ e. put_at u e ∙ sym (put_at w e)) (λ n. put_other u n ∙ same n ∙ sym (put_other w n))

  -- the own value put changes nothing
  pub put_own : (u : Assignment) (v : ℕ) → u x ≡ b → put x b u v ≡ u v
  put_own u v q = by_cases (ℕ_discrete v x) (λ e. put_at u e ∙ sym q ∙ sym (ap u e)) (put_other u)
