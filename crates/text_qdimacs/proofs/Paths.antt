-- Two ways through the lines of a text are one, whatever a line leads to and whatever it adds, if each line leads one way.
use mathlib.Core.Path.{◌≡◌, refl, ap₂, subst}
use Prim.Native.Nat.{ℕ}
use mathlib.Core.List.{List, [], ◌∷◌}

module _ {S A : Type 0} (nothing : A) (together : A → A → A) (Leads : S → List ℕ → S → A → Type 0) where
  -- Lines that follow one another, and what they add together.
  pub data Path : S → List (List ℕ) → S → A → Type 0 where
    here : {s : S} → Path s [] s nothing
    step : {s t u : S} {l : List ℕ} {ls : List (List ℕ)} {a b : A} → Leads s l t a → Path t ls u b → Path s (l ∷ ls) u (together a b)

  pub one_path : ((s t t' : S) (l : List ℕ) (a a' : A) → Leads s l t a → Leads s l t' a' → (t ≡ t') × (a ≡ a'))
      → {s t t' : S} {ls : List (List ℕ)} {a a' : A} → Path s ls t a → Path s ls t' a' → (t ≡ t') × (a ≡ a')
  one_path same here here = (refl, refl)
  one_path same (step {t = n} {u = t} {ls = ls} {a = a} {b = b} line more) (step {s = s} {t = n'} {l = l} {a = a'} line' more') =
      let w = same s n n' l a a' line line' in
      let o = one_path same (subst (λ (k : S). Path k ls t b) w.0 more) more' in
      (o.0, ap₂ together w.1 o.1)
