-- What is in a list can be told, and what holds of all that is.
use mathlib.Core.Path.{◌≡◌, refl, sym, subst}
use mathlib.Core.HLevel.{Discrete}
use mathlib.Core.List.Memᴰ
use mathlib.Core.List.{List, [], ◌∷◌, Memᴰ}
use mathlib.Core.Logic.{⊎_elim}
use native.Mathlib.Decide.{map_dec}

module _ {A : Type 0} where
  -- Something of which P holds is in the list, or nothing is.
  pub any : (P : A → Type 0) → ((a : A) → Dec (P a)) → (xs : List A) → Dec ((a : A) × Memᴰ a xs × P a)
  any P decide [] = no (λ t. Memᴰ.not-nil t.1)
  any P decide (x ∷ xs) = go (decide x) (any P decide xs)
    where
      go : Dec (P x) → Dec ((a : A) × Memᴰ a xs × P a) → Dec ((a : A) × Memᴰ a (x ∷ xs) × P a)
      go (yes p) later = yes (x, Memᴰ.head refl, p)
      go (no n) (yes t) = yes (t.0, Memᴰ.tail t.1, t.2)
      go (no n) (no none) = no (λ t. ⊎_elim (λ q. n (rw q at t.2)) (λ m. none (t.0, m, t.2)) (Memᴰ.cases_cons t.1))

  pub member? : Discrete A → (a : A) (xs : List A) → Dec (Memᴰ a xs)
  member? discrete a xs = map_dec (λ t. Memᴰ.cast t.2 t.1) (λ m. (a, m, refl)) (any (λ (b : A). a ≡ b) (discrete a) xs)

  -- What holds of the first and of all others holds of all.
  pub each_of : (P : A → Type 0) {x : A} {xs : List A} → P x → ((a : A) → Memᴰ a xs → P a) → (a : A) → Memᴰ a (x ∷ xs) → P a
  each_of P p later a m = ⊎_elim (λ q. subst P (sym q) p) (later a) (Memᴰ.cases_cons m)

  pub none_of : (P : A → Type 0) (a : A) → Memᴰ a [] → P a
  none_of P a m = absurd (Memᴰ.not-nil m)
