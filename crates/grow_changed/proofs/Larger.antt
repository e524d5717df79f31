-- Two sets of numbers, of which one lies within the other: they are as many exactly if they are the same.
use Prim.Native.Nat.{ℕ, ◌≤◌, ◌<◌}
use mathlib.Core.Path.{◌≡◌, refl, sym, ap, ◌∙◌, subst}
use mathlib.Core.List.Memᴰ
use mathlib.Core.List.{List, [], ◌∷◌, Memᴰ}
use mathlib.Core.Logic.{◌≢◌, ◌⊎◌, inl, inr, ⊎_elim}
use native.Mathlib.Decide.{ℕ_discrete}
use native.Mathlib.Omega.{arith}
use lib.ListN.{length}
use Rattle.terms.specs.Listed.{Ascending, Listed}
use Rattle.terms.proofs.Answers.{listed-as}
use Rattle.terms.proofs.Listed.{listed_one, insert}
use Rattle.forest_theory.specs.Counts.{Numbered}

-- An ascending list within another is no longer than that.
fewer : (list other : List ℕ) → Ascending list → Ascending other → ((v : ℕ) → Memᴰ v list → Memᴰ v other) → length list ≤ length other
fewer [] other up up' sub = omega arith
fewer (a ∷ list) [] up up' sub = absurd (Memᴰ.not-nil (sub a (Memᴰ.head refl)))
fewer (a ∷ list) (b ∷ other) up up' sub =
    ⊎_elim
    (λ same.
    let rest = fewer list other up.1 up'.1
    (λ v m. ⊎_elim (λ e. let l = up.0 v m in absurd (omega arith)) (λ m'. m') (Memᴰ.cases_cons (sub v (Memᴰ.tail m)))) in
    omega arith)
    (λ later.
    let less = up'.0 a later in
    let rest = fewer (a ∷ list) other up up'.1 (λ v m.
    let low : b < v = ⊎_elim (λ e. omega arith) (λ m'. let l = up.0 v m' in omega arith) (Memᴰ.cases_cons m) in
    ⊎_elim (λ e. absurd (omega arith)) (λ m'. m') (Memᴰ.cases_cons (sub v m))) in
    omega arith)
    (Memᴰ.cases_cons (sub a (Memᴰ.head refl)))

-- A list has a number, or it does not.
has : (v : ℕ) (list : List ℕ) → Memᴰ v list ⊎ (Memᴰ v list → ⊥)
has v [] = inr Memᴰ.not-nil
has v (a ∷ list) = go (ℕ_discrete v a) (has v list)
  where
    go : Dec (v ≡ a) → Memᴰ v list ⊎ (Memᴰ v list → ⊥) → Memᴰ v (a ∷ list) ⊎ (Memᴰ v (a ∷ list) → ⊥)
    go (yes e) rest = inl (Memᴰ.head e)
    go (no other) rest = ⊎_elim (λ m. inl (Memᴰ.tail m)) (λ out. inr (λ m. ⊎_elim other out (Memᴰ.cases_cons m))) rest

-- All numbers of a list are in another, or one is not.
extra : (list other : List ℕ) → ((v : ℕ) → Memᴰ v other → Memᴰ v list) ⊎ ((v : ℕ) × Memᴰ v other × (Memᴰ v list → ⊥))
extra list [] = inl (λ v m. absurd (Memᴰ.not-nil m))
extra list (b ∷ other) = ⊎_elim (λ here. within here (extra list other)) (λ out. inr (b, Memᴰ.head refl, out)) (has b list)
  where
    Found : List ℕ → Type 0
    Found l = ((v : ℕ) → Memᴰ v l → Memᴰ v list) ⊎ ((v : ℕ) × Memᴰ v l × (Memᴰ v list → ⊥))

    within : Memᴰ b list → Found other → Found (b ∷ other)
    within here =
        ⊎_elim (λ all. inl (λ v m. ⊎_elim (λ e. subst (λ w. Memᴰ w list) (sym e) here) (all v) (Memᴰ.cases_cons m)))
        (λ (v, m, out). inr (v, Memᴰ.tail m, out))

module _ {P Q : ℕ → Type 0} (more : (v : ℕ) → P v → Q v) where
  module _ (list other : List ℕ) (p : Listed P list) (q : Listed Q other) where
    -- Their lists are one, or the larger has a number more ...
    pub same_or_new : (list ≡ other) ⊎ ((y : ℕ) × Q y × (P y → ⊥))
    same_or_new =
        ⊎_elim (λ all. inl (listed_one list other p (listed-as (λ v. (λ b. p.each v (all v (q.all v b)), more v)) q)))
        (λ (v, m, out). inr (v, q.each v m, λ b. out (p.all v b))) (extra list other)

    -- ... and then its list is longer.
    pub new_longer : (y : ℕ) → Q y → (P y → ⊥) → length list < length other
    new_longer y new out =
        let (longer, inserted) = insert y list p.ascending (λ m. out (p.each y m)) in
        let most = fewer longer other inserted.ascending q.ascending
        (λ v m. ⊎_elim (λ e. q.all v (subst Q (sym e) new)) (λ old. q.all v (more v (p.each v old))) ((inserted.each v).0 m)) in
        omega (arith, inserted.size)

  -- So the numbers tell.
  module _ {j k : ℕ} (p : Numbered P j) (q : Numbered Q k) where
    pub grown_has : j ≢ k → (y : ℕ) × Q y × (P y → ⊥)
    grown_has other =
        ⊎_elim (λ same. absurd (other (p.size ∙ ap length same ∙ sym q.size))) (λ new. new) (same_or_new p.list q.list p.listed q.listed)

    pub has_grown : (y : ℕ) → Q y → (P y → ⊥) → j < k
    has_grown y new out = omega (arith, p.size, q.size, new_longer p.list q.list p.listed q.listed y new out)
