-- Theorem (a): a well-formed table represents the list of joins that it stands for.
use Prim.Native.Nat.{ℕ, zero, suc, ◌≤◌}
use mathlib.Core.Path.{◌≡◌, refl, sym, ◌∙◌, subst, subst₂}
use mathlib.Core.List.{List, [], ◌∷◌, Memᴰ}
use mathlib.Core.Logic.Iff
use mathlib.Core.Logic.{◌⊎◌, inl, inr, ⊎_elim, ◌↔◌, by_cases}
use native.Mathlib.Decide.{ℕ_discrete}
use native.Mathlib.Omega.{arith}
use lib.Dec.{eqb}
use borrow.Author.Tests.{eqb-false, ne_eqb}
use Rattle.forest_theory.specs.Reach.{Variables, Joined, Reach, here}
use Rattle.forest_theory.specs.InnerVariables.{Lawful}
use Rattle.forest_theory.specs.Tables.{Table, WellFormed, class_join, parent_join, each, joins}
use Rattle.forest_theory.specs.InnerClimb.{Represents}
use Rattle.forest_theory.proofs.Choice.{choice}
use Rattle.forest_theory.proofs.Reach.{reach_one, simulate, reach_along, joined_sym}
use Rattle.forest_theory.proofs.Represent.{Link, to_class, to_parent, Linked, up, down, linked_tops}

-- What stands in the list for each of 1 to n stands there for one of them.
each_member : {c : List ℕ} (f : ℕ → List (List ℕ)) (n : ℕ) → Memᴰ c (each f n) → (v : ℕ) × Memᴰ c (f v)
unfolding each
each_member f zero m = absurd (mathlib.Core.List.Memᴰ.not-nil m)
each_member f (suc n) m = ⊎_elim (each_member f n) (λ h. (suc n, h)) (mathlib.Core.List.Memᴰ.append_cases (each f n) m)

-- And what stands there for one of them stands in the list.
member_each : {c : List ℕ} (f : ℕ → List (List ℕ)) (n v : ℕ) → 1 ≤ v → v ≤ n → Memᴰ c (f v) → Memᴰ c (each f n)
unfolding each
member_each f zero v l h m = absurd (omega arith)
member_each f (suc n) v l h m = by_cases (ℕ_discrete v (suc n)) (λ e. mathlib.Core.List.Memᴰ.append_right (each f n) (rw e at m))
    (λ d. mathlib.Core.List.Memᴰ.append_left (f (suc n)) (member_each f n v l (omega arith) m))

-- A clause of the list is a linked pair.
data Pair (X : Variables) (W : Table) (c : List ℕ) : Type 0 where
  pair : (u z : ℕ) → Link X W u z → c ≡ (u ∷ z ∷ []) → Pair X W c

-- Every clause of the list is one.
joins_pair : {c : List ℕ} (X : Variables) (W : Table) → Memᴰ c (joins X W) → Pair X W c
unfolding joins class_join parent_join
joins_pair {c} X W m = ⊎_elim (λ h. let e = each_member (class_join X W) X.count h in class e.0 e.1)
    (λ h. let e = each_member (parent_join W) X.count h in parent e.0 e.1)
    (mathlib.Core.List.Memᴰ.append_cases (each (class_join X W) X.count) m)
  where
    class : (v : ℕ) → Memᴰ c (class_join X W v) → Pair X W c
    class v = choice (λ (l : List (List ℕ)). Memᴰ c l → Pair X W c) (X.ex v)
        (λ t h. pair v (W.cls v) (to_class t refl) (mathlib.Core.List.Memᴰ.eq_of_singleton h)) (λ t h. absurd (mathlib.Core.List.Memᴰ.not-nil h))

    parent : (v : ℕ) → Memᴰ c (parent_join W v) → Pair X W c
    parent v = choice (λ (l : List (List ℕ)). Memᴰ c l → Pair X W c) (eqb (W.par v) 0)
        (λ t h. absurd (mathlib.Core.List.Memᴰ.not-nil h)) (λ t h. pair v (W.par v) (to_parent (eqb-false (W.par v) 0 t) refl) (mathlib.Core.List.Memᴰ.eq_of_singleton h))

-- Two of a linked pair reach one another.
pair_reach : {X : Variables} {W : Table} {E : ℕ → Type 0} {u z a b : ℕ} → Link X W u z → Memᴰ a (u ∷ z ∷ []) → Memᴰ b (u ∷ z ∷ []) → E b
    → Reach (Linked X W) E a b
pair_reach {X} {W} {E} {u} {z} {a} {b} l ma mb e = go (mathlib.Core.List.Memᴰ.cases_cons ma) (mathlib.Core.List.Memᴰ.cases_cons mb)
  where
    go : (a ≡ u) ⊎ Memᴰ a (z ∷ []) → (b ≡ u) ⊎ Memᴰ b (z ∷ []) → Reach (Linked X W) E a b
    go (inl p) (inl q) = subst (λ (v : ℕ). Reach (Linked X W) E a v) (p ∙ sym q) here
    go (inl p) (inr m) = reach_one (up (subst₂ (Link X W) (sym p) (sym (mathlib.Core.List.Memᴰ.eq_of_singleton m)) l)) e
    go (inr m) (inl q) = reach_one (down (subst₂ (Link X W) (sym q) (sym (mathlib.Core.List.Memᴰ.eq_of_singleton m)) l)) e
    go (inr m) (inr n) = subst (λ (v : ℕ). Reach (Linked X W) E a v) (mathlib.Core.List.Memᴰ.eq_of_singleton m ∙ sym (mathlib.Core.List.Memᴰ.eq_of_singleton n)) here

module _ {X : Variables} {W : Table} (lawful : Lawful X) (formed : WellFormed X W) where
  -- Each link is listed, and each pair listed is a link.
  link_joined : {u z : ℕ} → Link X W u z → Joined (joins X W) u z
  unfolding joins class_join parent_join
  link_joined {u} {z} l = record { clause = u ∷ z ∷ []; listed = listed l; left = mathlib.Core.List.Memᴰ.head refl; right = mathlib.Core.List.Memᴰ.tail (mathlib.Core.List.Memᴰ.head refl) }
    where
      listed : Link X W u z → Memᴰ (u ∷ z ∷ []) (joins X W)
      listed (to_class ex e) =
          let r = lawful.within u ex in
          let m : Memᴰ (u ∷ z ∷ []) (class_join X W u) = rw (ex, e) (mathlib.Core.List.Memᴰ.head refl) in
          mathlib.Core.List.Memᴰ.append_left (each (parent_join W) X.count) (member_each (class_join X W) X.count u r.0 r.1 m)
      listed (to_parent n e) =
          let r = lawful.within u ((formed.right u).parent n).child.existential in
          let m : Memᴰ (u ∷ z ∷ []) (parent_join W u) = rw (ne_eqb (W.par u) 0 n, e) (mathlib.Core.List.Memᴰ.head refl) in
          mathlib.Core.List.Memᴰ.append_right (each (class_join X W) X.count) (member_each (parent_join W) X.count u r.0 r.1 m)

  -- Either way.
  linked_joined : (a b : ℕ) → Linked X W a b → Joined (joins X W) a b
  linked_joined a b (up l) = link_joined l
  linked_joined a b (down l) = joined_sym b a (link_joined l)

  -- Two of one clause reach one another by links.
  joined_linked : {E : ℕ → Type 0} (a b : ℕ) → E a → E b → Joined (joins X W) a b → Reach (Linked X W) E a b
  joined_linked {E} a b ea eb j = go (joins_pair X W j.listed)
    where
      go : Pair X W j.clause → Reach (Linked X W) E a b
      go (pair u z l e) = pair_reach l (rw e at j.left) (rw e at j.right) eb

  -- Reach along the list of joins is reach along links.
  pub joins_linked : {E : ℕ → Type 0} {v y : ℕ} → E v → Reach (Joined (joins X W)) E v y ↔ Reach (Linked X W) E v y
  joins_linked f = (simulate joined_linked f, reach_along linked_joined)

  -- Theorem (a): a well-formed table represents its joins.
  pub represents_itself : Represents X (Joined (joins X W)) W
  represents_itself = record { formed = formed; tops = λ i v y fv fy. Iff.trans (joins_linked fv) (linked_tops formed fv fy) }
