-- What leaving out x and placing copies behind their originals does to the order of variables and to their marks.
use Prim.Native.Nat.{ℕ, ◌≤◌, ◌<◌}
use mathlib.Core.Path.{◌≡◌, refl, sym, ◌∙◌, subst}
use mathlib.Core.List.{List, [], ◌∷◌, ◌++◌, map, append_assoc, Memᴰ}
use mathlib.Core.List.Memᴰ
use mathlib.Core.Logic.{◌⊎◌, inl, inr, ⊎_elim, ◌≢◌, by_cases}
use native.Mathlib.Decide.{ℕ_discrete}
use native.Mathlib.Omega.{arith}
use borrow.Author.Tests.{eqb-false, eq-eqb, ne_eqb}
use lib.Dec.{eqb}
use lib.ListN.{drop}
use Rattle.formula.specs.Meaning.{mark_of}
use Rattle.forest_theory.proofs.Choice.{choice}
use Rattle.formula_rules.proofs.Blocks.{Whole, AllWhole}
use Rattle.expand_clauses.specs.InnerCopies.{with_copy, placed, expanded_block}
use Rattle.truth.specs.Game.{Earlier, now, after, Distinct}
use Rattle.truth_expand.proofs.Order.{order, Marked, mine, further, earlier_across, earlier_right}

module _ (x : ℕ) (copy : ℕ → ℕ) where
  -- A variable with its copy.
  pub with_own : (v : ℕ) → Memᴰ v (with_copy copy v)
  unfolding with_copy
  with_own v = choice (Memᴰ v) (eqb (copy v) 0) (λ t. Memᴰ.head refl) (λ f. Memᴰ.head refl)

  pub with_copy_lem : (v : ℕ) → copy v ≢ 0 → Memᴰ (copy v) (with_copy copy v)
  unfolding with_copy
  with_copy_lem v n = rw (ne_eqb (copy v) 0 n) (Memᴰ.tail (Memᴰ.head refl))

  pub with_cases : {w : ℕ} (v : ℕ) → Memᴰ w (with_copy copy v) → (w ≡ v) ⊎ ((w ≡ copy v) × (copy v ≢ 0))
  unfolding with_copy
  with_cases {w} v i =
      choice (λ (l : List ℕ). Memᴰ w l → (w ≡ v) ⊎ ((w ≡ copy v) × (copy v ≢ 0))) (eqb (copy v) 0)
      (λ t j. inl (Memᴰ.eq_of_singleton j))
      (λ f j. ⊎_elim inl (λ k. inr (Memᴰ.eq_of_singleton k, eqb-false (copy v) 0 f)) (Memᴰ.cases_cons j)) i

  -- The variables of a list, placed.
  placed_append : (p q : List ℕ) → placed x copy (p ++ q) ≡ placed x copy p ++ placed x copy q
  unfolding placed
  placed_append [] q = refl
  placed_append (v ∷ p) q = by_cases (ℕ_discrete v x)
      (λ e. rw (eq-eqb v x e) (placed_append p q))
      (λ n. rw (ne_eqb v x n, placed_append p q) (sym (append_assoc (with_copy copy v) (placed x copy p) (placed x copy q))))

  placed_in : {v w : ℕ} {vs : List ℕ} → v ≢ x → Memᴰ v vs → Memᴰ w (with_copy copy v) → Memᴰ w (placed x copy vs)
  unfolding placed
  placed_in {v} {w} n (Memᴰ.head {x = k} {xs = vs} q) i =
      rw (ne_eqb k x (λ e. n (q ∙ e))) (Memᴰ.append_left (placed x copy vs) (subst (λ (z : ℕ). Memᴰ w (with_copy copy z)) q i))
  placed_in {v} {w} n (Memᴰ.tail {x = k} {xs = vs} m) i =
      choice (Memᴰ w) (eqb k x) (λ t. placed_in n m i) (λ f. Memᴰ.append_right (with_copy copy k) (placed_in n m i))

  pub placed_cases : {w : ℕ} (vs : List ℕ) → Memᴰ w (placed x copy vs) → (v : ℕ) × Memᴰ v vs × (v ≢ x) × Memᴰ w (with_copy copy v)
  unfolding placed
  placed_cases [] i = absurd (Memᴰ.not-nil i)
  placed_cases {w} (k ∷ vs) i =
      choice (λ (l : List ℕ). Memᴰ w l → From (k ∷ vs)) (eqb k x) (λ t j. later (placed_cases vs j))
      (λ f j. ⊎_elim (λ h. (k, Memᴰ.head refl, eqb-false k x f, h)) (λ h. later (placed_cases vs h)) (Memᴰ.append_cases (with_copy copy k) j)) i
    where
      From : List ℕ → Type 0
      From vs = (v : ℕ) × Memᴰ v vs × (v ≢ x) × Memᴰ w (with_copy copy v)

      later : From vs → From (k ∷ vs)
      later (v, j, n, h) = (v, Memᴰ.tail j, n, h)

  -- The order stays, for variables and for copies.
  pub placed_earlier : {a c a' c' : ℕ} {vs : List ℕ} → a ≢ x → c ≢ x → Memᴰ a' (with_copy copy a) → Memᴰ c' (with_copy copy c)
      → Earlier a c vs → Earlier a' c' (placed x copy vs)
  unfolding placed
  placed_earlier {a' = a'} n m i j (now {v = v} {later = vs} q k) =
      rw (ne_eqb v x (λ e. n (sym q ∙ e)))
      (earlier_across (placed x copy vs) (subst (λ (z : ℕ). Memᴰ a' (with_copy copy z)) (sym q) i) (placed_in m k j))
  placed_earlier {a' = a'} {c' = c'} n m i j (after {v = v} {later = vs} e) =
      choice (Earlier a' c') (eqb v x) (λ t. placed_earlier n m i j e) (λ f. earlier_right (with_copy copy v) (placed_earlier n m i j e))

  -- None is named twice, if copies are new and no two are one.
  pub placed_distinct : (n : ℕ) → ((v : ℕ) → copy v ≢ 0 → n < copy v) → ((v w : ℕ) → copy v ≢ 0 → copy v ≡ copy w → v ≡ w) → (vs : List ℕ)
      → ((v : ℕ) → Memᴰ v vs → v ≤ n) → Distinct vs → Distinct (placed x copy vs)
  unfolding placed with_copy
  placed_distinct n over one [] low d = tt
  placed_distinct n over one (v ∷ vs) low d =
      let rest = placed_distinct n over one vs (λ w i. low w (Memᴰ.tail i)) d.1 in
      choice Distinct (eqb v x) (λ t. rest)
      (λ f. choice (λ (l : List ℕ). Distinct (l ++ placed x copy vs)) (eqb (copy v) 0) (λ t. (fresh, rest))
      (λ f. let some = eqb-false (copy v) 0 f in (λ i. ⊎_elim (λ q. apart some q) fresh (Memᴰ.cases_cons i), (new some, rest))))
    where
      apart : copy v ≢ 0 → v ≡ copy v → ⊥
      apart c q = let l = over v c in let k = low v (Memᴰ.head refl) in omega arith

      fresh : Memᴰ v (placed x copy vs) → ⊥
      fresh i =
          let (w, j, _, h) = placed_cases vs i in
          ⊎_elim (λ q. d.0 (Memᴰ.cast q j))
          (λ q. let l = over w q.1 in let k = low v (Memᴰ.head refl) in let e = q.0 in omega arith) (with_cases w h)

      new : copy v ≢ 0 → Memᴰ (copy v) (placed x copy vs) → ⊥
      new c i =
          let (w, j, _, h) = placed_cases vs i in
          ⊎_elim (λ q. let l = over v c in let k = low w (Memᴰ.tail j) in omega arith)
          (λ q. d.0 (Memᴰ.cast (one v w c q.0) j)) (with_cases w h)

  -- So for blocks: order, marks, and that no entry is 0.
  drop_expanded : (b : List ℕ) → drop 1 (expanded_block x copy b) ≡ placed x copy (drop 1 b)
  unfolding expanded_block placed
  drop_expanded [] = refl
  drop_expanded (m ∷ b) = refl

  mark_expanded : (b : List ℕ) → mark_of (expanded_block x copy b) ≡ mark_of b
  unfolding expanded_block
  mark_expanded [] = refl
  mark_expanded (m ∷ b) = refl

  pub order_expanded : (bs : List (List ℕ)) → order (map (expanded_block x copy) bs) ≡ placed x copy (order bs)
  unfolding order placed
  order_expanded [] = refl
  order_expanded (b ∷ bs) = rw (drop_expanded b, order_expanded bs) (sym (placed_append (drop 1 b) (order bs)))

  pub marked_expanded : {m v w : ℕ} {bs : List (List ℕ)} → v ≢ x → Memᴰ w (with_copy copy v) → Marked m v bs
      → Marked m w (map (expanded_block x copy) bs)
  marked_expanded n i (mine {b = b} q k) = mine {b = expanded_block x copy b} (mark_expanded b ∙ q) (rw (drop_expanded b) (placed_in n k i))
  marked_expanded n i (further k) = further (marked_expanded n i k)

  placed_whole : (vs : List ℕ) → Whole vs → Whole (placed x copy vs)
  unfolding placed with_copy
  placed_whole [] w = tt
  placed_whole (v ∷ vs) w =
      choice Whole (eqb v x) (λ t. placed_whole vs w.1)
      (λ f. choice (λ (l : List ℕ). Whole (l ++ placed x copy vs)) (eqb (copy v) 0) (λ t. (w.0, placed_whole vs w.1))
      (λ f. (w.0, (eqb-false (copy v) 0 f, placed_whole vs w.1))))

  pub expanded_whole : (bs : List (List ℕ)) → AllWhole bs → AllWhole (map (expanded_block x copy) bs)
  unfolding expanded_block
  expanded_whole [] w = tt
  expanded_whole ([] ∷ bs) w = (tt, expanded_whole bs w.1)
  expanded_whole ((m ∷ b) ∷ bs) w = ((w.0.0, placed_whole b w.0.1), expanded_whole bs w.1)
