-- The turns that are computed are turns of the variables 1 to n, outer blocks first.
use Prim.Native.Nat.{ℕ, zero, suc, ◌≤◌}
use mathlib.Core.Path.{◌≡◌, refl, sym, ap, subst}
use mathlib.Core.Bool.{true, false}
use mathlib.Core.List.Memᴰ
use mathlib.Core.List.{List, [], ◌∷◌, Memᴰ}
use mathlib.Core.Logic.{◌⊎◌, inl, inr, ⊎_elim, by_cases}
use native.Mathlib.Decide.{ℕ_discrete}
use native.Mathlib.Omega.{arith}
use borrow.Author.Tests.{leb-true, leb-false}
use lib.Dec.{leb}
use Rattle.forest_theory.proofs.Choice.{choice}
use Rattle.truth.specs.Game.{Earlier, now, after, Distinct, Turns, insert_turn, turns_of}

module _ (level : ℕ → ℕ) where
  -- ascending by level
  abbrev Sorted : List ℕ → Type 0
  Sorted [] = Unit {0}
  Sorted (v ∷ vs) = ((w : ℕ) → Memᴰ w vs → level v ≤ level w) × Sorted vs

  sorted_earlier : {x y : ℕ} {vs : List ℕ} → Sorted vs → Earlier x y vs → level x ≤ level y
  sorted_earlier {y = y} s (now q m) = subst (λ (k : ℕ). level k ≤ level y) q (s.0 y m)
  sorted_earlier s (after e) = sorted_earlier s.1 e

  -- One variable put into its place.
  insert_cases : {w : ℕ} (v : ℕ) (vs : List ℕ) → Memᴰ w (insert_turn level v vs) → (w ≡ v) ⊎ Memᴰ w vs
  unfolding insert_turn
  insert_cases v [] m = Memᴰ.cases_cons m
  insert_cases {w} v (k ∷ vs) m = choice (λ (l : List ℕ). Memᴰ w l → (w ≡ v) ⊎ Memᴰ w (k ∷ vs)) (leb (level v) (level k))
      (λ t i. Memᴰ.cases_cons i)
      (λ f i. ⊎_elim (λ q. inr (Memᴰ.head q)) (λ j. ⊎_elim inl (λ h. inr (Memᴰ.tail h)) (insert_cases v vs j)) (Memᴰ.cases_cons i)) m

  insert_own : (v : ℕ) (vs : List ℕ) → Memᴰ v (insert_turn level v vs)
  unfolding insert_turn
  insert_own v [] = Memᴰ.head refl
  insert_own v (k ∷ vs) = choice (Memᴰ v) (leb (level v) (level k)) (λ t. Memᴰ.head refl) (λ f. Memᴰ.tail (insert_own v vs))

  insert_old : {w : ℕ} (v : ℕ) (vs : List ℕ) → Memᴰ w vs → Memᴰ w (insert_turn level v vs)
  unfolding insert_turn
  insert_old v [] m = Memᴰ.tail m
  insert_old {w} v (k ∷ vs) m = choice (Memᴰ w) (leb (level v) (level k)) (λ t. Memᴰ.tail m)
      (λ f. ⊎_elim (λ q. Memᴰ.head q) (λ i. Memᴰ.tail (insert_old v vs i)) (Memᴰ.cases_cons m))

  insert_distinct : (v : ℕ) (vs : List ℕ) → (Memᴰ v vs → ⊥) → Distinct vs → Distinct (insert_turn level v vs)
  unfolding insert_turn
  insert_distinct v [] n d = (n, tt)
  insert_distinct v (k ∷ vs) n d = choice Distinct (leb (level v) (level k)) (λ t. (n, d))
      (λ f. (λ m. ⊎_elim (λ q. n (Memᴰ.head (sym q))) d.0 (insert_cases v vs m), insert_distinct v vs (λ m. n (Memᴰ.tail m)) d.1))

  insert_sorted : (v : ℕ) (vs : List ℕ) → Sorted vs → Sorted (insert_turn level v vs)
  unfolding insert_turn
  insert_sorted v [] s = (λ w m. absurd (Memᴰ.not-nil m), tt)
  insert_sorted v (k ∷ vs) s = choice Sorted (leb (level v) (level k)) before (λ f. (λ w m. behind f w (insert_cases v vs m), insert_sorted v vs s.1))
    where
      before : leb (level v) (level k) ≡ true → Sorted (v ∷ k ∷ vs)
      before t =
          let least = leb-true (level v) (level k) t in
          let later : (w : ℕ) → Memᴰ w vs → level v ≤ level w = λ w i. omega (arith, s.0 w i) in
          (λ w m. ⊎_elim (λ q. subst (λ (j : ℕ). level v ≤ level j) (sym q) least) (later w) (Memᴰ.cases_cons m), s)

      behind : leb (level v) (level k) ≡ false → (w : ℕ) → (w ≡ v) ⊎ Memᴰ w vs → level k ≤ level w
      behind f w = ⊎_elim (λ q. let e = ap level q in let over = leb-false (level v) (level k) f in omega arith) (s.0 w)

  -- And all of them.
  turns_within : {v : ℕ} (n : ℕ) → Memᴰ v (turns_of level n) → (1 ≤ v) × (v ≤ n)
  unfolding turns_of
  turns_within zero m = absurd (Memᴰ.not-nil m)
  turns_within (suc n) m = ⊎_elim (λ q. (omega arith, omega arith)) (λ i. let r = turns_within n i in (r.0, omega arith)) (insert_cases (suc n) (turns_of level n) m)

  turns_all : {v : ℕ} (n : ℕ) → 1 ≤ v → v ≤ n → Memᴰ v (turns_of level n)
  unfolding turns_of
  turns_all zero a b = absurd (omega arith)
  turns_all {v} (suc n) a b = by_cases (ℕ_discrete v (suc n)) (λ q. Memᴰ.cast q (insert_own (suc n) (turns_of level n)))
      (λ d. insert_old (suc n) (turns_of level n) (turns_all n a (omega arith)))

  turns_distinct : (n : ℕ) → Distinct (turns_of level n)
  unfolding turns_of
  turns_distinct zero = tt
  turns_distinct (suc n) = insert_distinct (suc n) (turns_of level n) (λ m. let r = (turns_within n m).1 in omega arith) (turns_distinct n)

  turns_sorted : (n : ℕ) → Sorted (turns_of level n)
  unfolding turns_of
  turns_sorted zero = tt
  turns_sorted (suc n) = insert_sorted (suc n) (turns_of level n) (turns_sorted n)

  pub turns_of_lem : (n : ℕ) → Turns level n (turns_of level n)
  turns_of_lem n =
      record {
        once = turns_distinct n;
        all = λ v a b. turns_all n a b;
        within = λ v m. turns_within n m;
        outer_first = λ x y e. sorted_earlier (turns_sorted n) e;
      }
