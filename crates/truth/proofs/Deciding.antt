-- Whether a path runs from one literal to another is decided by closure over the list of all literals: through the first few of them either not
-- through the last, or to that one and on from its complement.
use Prim.Native.Nat.{ℕ}
use mathlib.Core.Path.{◌≡◌, subst}
use mathlib.Core.Bool.{false, Bool-discrete}
use mathlib.Core.List.Memᴰ
use mathlib.Core.List.{List, [], ◌∷◌, ◌++◌, Memᴰ}
use mathlib.Core.Logic.Dec
use mathlib.Core.Logic.{◌⊎◌, inl, inr, ⊎_elim, ◌≢◌}
use native.Mathlib.Decide.{ℕ_discrete, map_dec}
use lib.IntN.{ℤ, neg_ℤ, ℤ_discrete}
use Rattle.terms.specs.Literals.{variable_of}
use Rattle.formula.specs.Meaning.{always_true}
use Rattle.truth.specs.Paths.{Crossing, Way, enters, goes_on}
use Rattle.truth.proofs.Decisions.{any, member?}

module _ (clauses : List (List ℤ)) (E : ℕ → Type 0) where
  -- a path that passes only literals of a list
  abbrev Through : List ℤ → ℤ → ℤ → Type 0
  Through [] a b = Crossing clauses a b
  Through (v ∷ vs) a b = Through vs a b ⊎ (Through vs a v × E (variable_of v) × Through vs (neg_ℤ v) b)

  through_one : (vs : List ℤ) {a b : ℤ} → Crossing clauses a b → Through vs a b
  through_one [] c = c
  through_one (v ∷ vs) c = inl (through_one vs c)

  -- Two such paths that meet at a literal of the list make one.
  through_join : (vs : List ℤ) (v a b : ℤ) → Memᴰ v vs → Through vs a v → E (variable_of v) → Through vs (neg_ℤ v) b → Through vs a b
  through_join [] v a b i p e q = absurd (Memᴰ.not-nil i)
  through_join (w ∷ ws) v a b i p e q =
      ⊎_elim
      (λ s. here (subst (λ (k : ℤ). Through (w ∷ ws) a k) s p) (subst (λ (k : ℤ). E (variable_of k)) s e)
      (subst (λ (k : ℤ). Through (w ∷ ws) (neg_ℤ k) b) s q))
      (λ j. there (λ c d. through_join ws v c d j) p q)
      (Memᴰ.cases_cons i)
    where
      -- they meet at the last
      here : Through (w ∷ ws) a w → E (variable_of w) → Through (w ∷ ws) (neg_ℤ w) b → Through (w ∷ ws) a b
      here p e q = inr (⊎_elim (λ r. r) (λ r. r.0) p, e, ⊎_elim (λ r. r) (λ r. r.2) q)

      -- they meet at another: each may pass the last too
      there : ((c d : ℤ) → Through ws c v → E (variable_of v) → Through ws (neg_ℤ v) d → Through ws c d)
          → Through (w ∷ ws) a v → Through (w ∷ ws) (neg_ℤ v) b → Through (w ∷ ws) a b
      there join (inl p) (inl q) = inl (join a b p e q)
      there join (inl p) (inr q) = inr (join a w p e q.0, q.1, q.2)
      there join (inr p) (inl q) = inr (p.0, p.1, join (neg_ℤ w) b p.2 e q)
      there join (inr p) (inr q) = inr (p.0, p.1, q.2)

  -- What passes only literals of a list is a path.
  way_join : {a v b : ℤ} → Way clauses E a v → E (variable_of v) → Way clauses E (neg_ℤ v) b → Way clauses E a b
  way_join p e (enters c) = goes_on p e c
  way_join p e (goes_on q f c) = goes_on (way_join p e q) f c

  through_way : (vs : List ℤ) {a b : ℤ} → Through vs a b → Way clauses E a b
  through_way [] c = enters c
  through_way (v ∷ vs) (inl p) = through_way vs p
  through_way (v ∷ vs) (inr p) = way_join (through_way vs p.0) p.1 (through_way vs p.2)

  -- And every path passes only literals of the list of all.
  literals : List (List ℤ) → List ℤ
  literals [] = []
  literals (c ∷ cs) = c ++ literals cs

  in_literals : (cs : List (List ℤ)) {c : List ℤ} {l : ℤ} → Memᴰ c cs → Memᴰ l c → Memᴰ l (literals cs)
  unfolding literals
  in_literals [] i j = absurd (Memᴰ.not-nil i)
  in_literals (d ∷ cs) {c} {l} i j =
      ⊎_elim (λ q. Memᴰ.append_left (literals cs) (rw q at j)) (λ m. Memᴰ.append_right d (in_literals cs m j)) (Memᴰ.cases_cons i)

  way_end : {a b : ℤ} → Way clauses E a b → Memᴰ b (literals clauses)
  way_end (enters c) = in_literals clauses c.listed c.left
  way_end (goes_on p e c) = in_literals clauses c.listed c.left

  way_through : {a b : ℤ} → Way clauses E a b → Through (literals clauses) a b
  way_through (enters c) = through_one (literals clauses) c
  way_through {a} {b} (goes_on {at = at} p e c) =
      through_join (literals clauses) at a b (way_end p) (way_through p) e (through_one (literals clauses) c)

  -- Crossings are decided, and so are paths.
  crossing? : (a b : ℤ) → Dec (Crossing clauses a b)
  crossing? a b = map_dec
      (λ t. let (c, i, (plain, (from, (to, other)))) = t in
      record { clause = c; listed = i; takes_part = plain; entered = from; left = to; another = other })
      (λ c. (c.clause, c.listed, (c.takes_part, (c.entered, (c.left, c.another)))))
      (any (λ (c : List ℤ). (always_true c ≡ false) × (Memᴰ a c × (Memᴰ b c × (variable_of a ≢ variable_of b))))
      (λ c. Dec.and (Bool-discrete (always_true c) false) (Dec.and (member? ℤ_discrete a c)
      (Dec.and (member? ℤ_discrete b c) (Dec.not (ℕ_discrete (variable_of a) (variable_of b)))))) clauses)

  module _ (decide : (v : ℕ) → Dec (E v)) where
    through? : (vs : List ℤ) (a b : ℤ) → Dec (Through vs a b)
    through? [] a b = crossing? a b
    through? (v ∷ vs) a b = go (through? vs a b) (through? vs a v) (decide (variable_of v)) (through? vs (neg_ℤ v) b)
      where
        go : Dec (Through vs a b) → Dec (Through vs a v) → Dec (E (variable_of v)) → Dec (Through vs (neg_ℤ v) b) → Dec (Through (v ∷ vs) a b)
        go (yes p) q e r = yes (inl p)
        go (no n) (yes q) (yes e) (yes r) = yes (inr (q, e, r))
        go (no n) (yes q) (yes e) (no m) = no (⊎_elim n (λ t. m t.2))
        go (no n) (yes q) (no m) r = no (⊎_elim n (λ t. m t.1))
        go (no n) (no m) e r = no (⊎_elim n (λ t. m t.0))

    pub way? : (a b : ℤ) → Dec (Way clauses E a b)
    way? a b = map_dec (through_way (literals clauses)) way_through (through? (literals clauses) a b)
