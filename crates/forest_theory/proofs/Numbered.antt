-- How many there are: one number, none, one more, two kinds together, and how many pass a test.
use Prim.Native.Nat.{ℕ, zero, suc, ◌+◌, ◌≤◌}
use mathlib.Core.Path.{◌≡◌, refl, sym, ap, ◌∙◌, subst}
use mathlib.Core.Bool.{Bool, true, false, cond, false≢true}
use mathlib.Core.List.Memᴰ
use mathlib.Core.List.{List, [], ◌∷◌, Memᴰ}
use mathlib.Core.Logic.{◌⊎◌, inl, inr, ⊎_elim, ◌↔◌, by_cases}
use native.Mathlib.Decide.{ℕ_discrete}
use native.Mathlib.Numerals.{add-one}
use native.Mathlib.Omega.{arith}
use lib.ListN.{length}
use Rattle.terms.specs.Listed.{Ascending}
use Rattle.forest_theory.specs.Counts.{Numbered, how_many}
use Rattle.terms.proofs.Listed.{listed_one, listed_most, insert}

module _ {P : ℕ → Type 0} where
  -- There is one number.
  pub numbered_one : {j k : ℕ} → Numbered P j → Numbered P k → j ≡ k
  numbered_one m n = m.size ∙ ap length (listed_one m.list n.list m.listed n.listed) ∙ sym n.size

  -- Of numbers from 1 to n there are at most n.
  pub numbered_most : {n k : ℕ} → ((v : ℕ) → P v → (1 ≤ v) × (v ≤ n)) → Numbered P k → k ≤ n
  numbered_most {n} within m = let most = listed_most P n m.list within m.listed in omega (arith, m.size)

  -- Where it holds of none there are 0.
  pub numbered_none : ((v : ℕ) → P v → ⊥) → Numbered P 0
  numbered_none none = record { list = []; listed = record { ascending = tt; each = λ v m. absurd (Memᴰ.not-nil m); all = λ v p. absurd (none v p) }; size = refl }

  module _ {Q : ℕ → Type 0} where
    -- What holds of the same has the same number.
    pub numbered_same : {k : ℕ} → ((v : ℕ) → P v ↔ Q v) → Numbered P k → Numbered Q k
    numbered_same same m =
        let l = m.listed in
        record { list = m.list; listed = record { ascending = l.ascending; each = λ v i. (same v).0 (l.each v i); all = λ v q. l.all v ((same v).1 q) }; size = m.size }

    -- With w too there is one more.
    pub numbered_more : {k : ℕ} (w : ℕ) → (P w → ⊥) → ((v : ℕ) → Q v ↔ ((v ≡ w) ⊎ P v)) → Numbered P k → Numbered Q (k + 1)
    numbered_more {k} w out with m =
        let l = m.listed in
        let (more, i) = insert w m.list l.ascending (λ h. out (l.each w h)) in
        record {
          list = more;
          listed = record {
            ascending = i.ascending;
            each = λ v h. (with v).1 (⊎_elim (λ e. inl e) (λ n. inr (l.each v n)) ((i.each v).0 h));
            all = λ v q. (i.each v).1 (⊎_elim (λ e. inl e) (λ p. inr (l.all v p)) ((with v).0 q));
          };
          size = let s = i.size in let t = m.size in omega arith;
        }

-- Where P and Q hold of no number together, their numbers add.
module _ {P : ℕ → Type 0} {j : ℕ} (m : Numbered P j) where
  -- First for a list, one number after another ...
  with_list : (list : List ℕ) → Ascending list → ((v : ℕ) → Memᴰ v list → P v → ⊥) → Numbered (λ v. P v ⊎ Memᴰ v list) (j + length list)
  with_list [] up apart =
      let q : j ≡ j + 0 = omega arith in
      subst (Numbered (λ v. P v ⊎ Memᴰ v [])) q (numbered_same (λ v. (λ p. inl p, λ s. ⊎_elim (λ p. p) (λ h. absurd (Memᴰ.not-nil h)) s)) m)
  with_list (b ∷ list) up apart =
      let q : (j + length list) + 1 ≡ j + suc (length list) = omega arith in
      subst (Numbered (λ v. P v ⊎ Memᴰ v (b ∷ list))) q
      (numbered_more b
      (λ s. ⊎_elim (apart b (Memᴰ.head refl)) (λ h. let l = up.0 b h in omega arith) s)
      (λ v. (
        λ s. ⊎_elim (λ p. inr (inl p)) (λ h. ⊎_elim (λ e. inl e) (λ n. inr (inr n)) (Memᴰ.cases_cons h)) s,
        λ s. ⊎_elim (λ e. inr (Memᴰ.head e)) (λ t. ⊎_elim (λ p. inl p) (λ n. inr (Memᴰ.tail n)) t) s,
      ))
      (with_list list up.1 (λ v h. apart v (Memᴰ.tail h))))

  -- ... and so for all of which Q holds.
  pub numbered_plus : {Q R : ℕ → Type 0} {k : ℕ} → ((v : ℕ) → P v → Q v → ⊥) → ((v : ℕ) → R v ↔ (P v ⊎ Q v)) → Numbered Q k → Numbered R (j + k)
  numbered_plus {Q} {R} {k} apart both n =
      let l = n.listed in
      subst (λ (i : ℕ). Numbered R (j + i)) (sym n.size)
      (numbered_same (λ v. (λ s. (both v).1 (⊎_elim (λ p. inl p) (λ h. inr (l.each v h)) s), λ r. ⊎_elim (λ p. inl p) (λ q. inr (l.all v q)) ((both v).0 r)))
      (with_list n.list l.ascending (λ v h p. apart v p (l.each v h))))

-- How many of 1 to n pass a test is the number of those that do.
pub how_many_numbered : (f : ℕ → Bool) (n : ℕ) → Numbered (λ v. (1 ≤ v) × (v ≤ n) × (f v ≡ true)) (how_many f n)
unfolding how_many
how_many_numbered f zero = numbered_none (λ v p. let (a, b, t) = p in omega arith)
how_many_numbered f (suc n) = go (f (suc n)) refl (how_many_numbered f n)
  where
    go : (b : Bool) → f (suc n) ≡ b → Numbered (λ v. (1 ≤ v) × (v ≤ n) × (f v ≡ true)) (how_many f n)
        → Numbered (λ v. (1 ≤ v) × (v ≤ suc n) × (f v ≡ true)) (how_many f n + cond b 1 0)
    go true q m = numbered_more (suc n) (λ p. let (a, b, t) = p in omega arith)
        (λ v. (
          λ p. by_cases (ℕ_discrete v (suc n)) (λ e. inl e) (λ other. let (a, b, t) = p in inr (a, omega arith, t)),
          λ s. ⊎_elim (λ e. (omega arith, omega arith, ap f e ∙ q)) (λ p. let (a, b, t) = p in (a, omega arith, t)) s,
        )) m
    go false q m =
        let z : how_many f n ≡ how_many f n + 0 = omega arith in
        subst (Numbered (λ v. (1 ≤ v) × (v ≤ suc n) × (f v ≡ true))) z
        (numbered_same (λ v. (
          λ p. let (a, b, t) = p in (a, omega arith, t),
          λ p. let (a, b, t) = p in (a, (let other : v ≡ suc n → ⊥ = λ e. false≢true (sym q ∙ sym (ap f e) ∙ t) in omega arith), t),
        )) m)

-- One number more.
pub how_many_next : (f : ℕ → Bool) (m : ℕ) → how_many f (m + 1) ≡ how_many f m + cond (f (m + 1)) 1 0
unfolding how_many
how_many_next f m = rw (add-one m)

-- No more pass a test than pass one that passes all of them.
pub how_many_less : {f g : ℕ → Bool} → ((v : ℕ) → f v ≡ true → g v ≡ true) → (n : ℕ) → how_many f n ≤ how_many g n
unfolding how_many
how_many_less less zero = omega arith
how_many_less {f} {g} less (suc n) = go (f (suc n)) (less (suc n)) (how_many_less less n)
  where
    go : (b : Bool) → (b ≡ true → g (suc n) ≡ true) → how_many f n ≤ how_many g n → how_many f n + cond b 1 0 ≤ how_many g n + cond (g (suc n)) 1 0
    go true more l = rw (more refl) (omega arith)
    go false more l = omega arith
