-- Laws of joins that lie inside others, so that whatever these do those can do too: composed, with a clause added, and for the links of a table.
use Prim.Native.Nat.{ℕ}
use mathlib.Core.Path.{◌≡◌, refl, sym, ◌∙◌, subst, subst₂}
use mathlib.Core.List.Memᴰ
use mathlib.Core.List.{List, [], ◌∷◌, ◌++◌, Memᴰ}
use mathlib.Core.Logic.{◌⊎◌, inl, inr}
use Rattle.forest_theory.specs.Reach.{Variables, From, Joined, Reach, here}
use Rattle.forest_theory.specs.Tables.{Table}
use Rattle.forest_theory.specs.InnerGrowth.{before, added, Added}
use Rattle.forest_theory.proofs.Reach.{Symmetric, reach_one, reach_sym, simulate, joined_added, added_sym}
use Rattle.forest_theory.proofs.Represent.{Link, Linked, up, down, linked_sym}
use Rattle.grow_union_find.specs.InnerLoose.{Inside, Equal}

module _ {X : Variables} where
  -- What lies inside reaches no more.
  pub inside_reach : {J K : ℕ → ℕ → Type 0} {i a b : ℕ} → Inside X J K → From X i a → Reach J (From X i) a b → Reach K (From X i) a b
  inside_reach {i = i} s f r = simulate (s.does i) f r

  pub inside_refl : {J : ℕ → ℕ → Type 0} → Inside X J J
  inside_refl = record { does = λ i a b fa fb j. reach_one j fb }

  pub inside_trans : {J K L : ℕ → ℕ → Type 0} → Inside X J K → Inside X K L → Inside X J L
  inside_trans s t = record { does = λ i a b fa fb j. inside_reach t fa (s.does i a b fa fb j) }

  pub inside_before : {J : ℕ → ℕ → Type 0} {C : List ℕ} → Inside X J (Added J C)
  inside_before = record { does = λ i a b fa fb j. reach_one (before j) fb }

  -- A clause added: the joins lie inside, and so does every pair of the clause.
  pub inside_clause : {J K : ℕ → ℕ → Type 0} {C : List ℕ} → Inside X J K
      → ((i a b : ℕ) → From X i a → From X i b → Memᴰ a C → Memᴰ b C → Reach K (From X i) a b) → Inside X (Added J C) K
  inside_clause {J} {K} {C} s pairs = record { does = go }
    where
      go : (i a b : ℕ) → From X i a → From X i b → Added J C a b → Reach K (From X i) a b
      go i a b fa fb (before j) = s.does i a b fa fb j
      go i a b fa fb (added l m) = pairs i a b fa fb l m

  pub inside_added : {J K : ℕ → ℕ → Type 0} {C : List ℕ} → Inside X J K → Inside X (Added J C) (Added K C)
  inside_added s = inside_clause (inside_trans s inside_before) (λ i a b fa fb l m. reach_one (added l m) fb)

  -- A pair added: it is enough that one of them reaches the other.
  pub inside_pair : {J K : ℕ → ℕ → Type 0} {p q : ℕ} → Symmetric K → Inside X J K
      → ((i : ℕ) → From X i p → From X i q → Reach K (From X i) p q) → Inside X (Added J (p ∷ q ∷ [])) K
  inside_pair {J} {K} {p} {q} flip s does = inside_clause s (λ i a b fa fb l m. go i a b fa fb (Memᴰ.cases_cons l) (Memᴰ.cases_cons m))
    where
      crossed : (i a b : ℕ) → From X i a → From X i b → a ≡ p → b ≡ q → Reach K (From X i) a b
      crossed i a b fa fb e d = subst₂ (λ (x y : ℕ). Reach K (From X i) x y) (sym e) (sym d) (does i (subst (From X i) e fa) (subst (From X i) d fb))

      go : (i a b : ℕ) → From X i a → From X i b → (a ≡ p) ⊎ Memᴰ a (q ∷ []) → (b ≡ p) ⊎ Memᴰ b (q ∷ []) → Reach K (From X i) a b
      go i a b fa fb (inl e) (inl d) = subst (λ (v : ℕ). Reach K (From X i) a v) (e ∙ sym d) here
      go i a b fa fb (inl e) (inr m) = crossed i a b fa fb e (Memᴰ.eq_of_singleton m)
      go i a b fa fb (inr l) (inl d) = reach_sym flip fb (crossed i b a fb fa d (Memᴰ.eq_of_singleton l))
      go i a b fa fb (inr l) (inr m) = subst (λ (v : ℕ). Reach K (From X i) a v) (Memᴰ.eq_of_singleton l ∙ sym (Memᴰ.eq_of_singleton m)) here

  -- Links lie inside symmetric joins if each does, upward.
  pub inside_links : {W : Table} {K : ℕ → ℕ → Type 0} → Symmetric K
      → ((i u z : ℕ) → From X i u → From X i z → Link X W u z → Reach K (From X i) u z) → Inside X (Linked X W) K
  inside_links {W} {K} flip does = record { does = go }
    where
      go : (i a b : ℕ) → From X i a → From X i b → Linked X W a b → Reach K (From X i) a b
      go i a b fa fb (up l) = does i a b fa fb l
      go i a b fa fb (down l) = reach_sym flip fb (does i b a fb fa l)

  pub equal_refl : {J : ℕ → ℕ → Type 0} → Equal X J J
  equal_refl = record { there = inside_refl; back = inside_refl }

  pub equal_trans : {J K L : ℕ → ℕ → Type 0} → Equal X J K → Equal X K L → Equal X J L
  equal_trans s t = record { there = inside_trans s.there t.there; back = inside_trans t.back s.back }

  pub equal_sym : {J K : ℕ → ℕ → Type 0} → Equal X J K → Equal X K J
  equal_sym s = record { there = s.back; back = s.there }

  -- A clause at the end of a list is a clause added.
  pub equal_snoc : {cs : List (List ℕ)} {C : List ℕ} → Equal X (Joined (cs ++ (C ∷ []))) (Added (Joined cs) C)
  equal_snoc = record {
    there = record { does = λ i a b fa fb j. reach_one ((joined_added a b).0 j) fb };
    back = record { does = λ i a b fa fb j. reach_one ((joined_added a b).1 j) fb };
  }

  pub equal_added : {J K : ℕ → ℕ → Type 0} {C : List ℕ} → Equal X J K → Equal X (Added J C) (Added K C)
  equal_added s = record { there = inside_added s.there; back = inside_added s.back }

-- The two of an added pair, and the links with it, as reach.
pub pair_step : {J : ℕ → ℕ → Type 0} {E : ℕ → Type 0} {p q : ℕ} → E q → Reach (Added J (p ∷ q ∷ [])) E p q
pair_step e = reach_one (added (Memᴰ.head refl) (Memᴰ.tail (Memᴰ.head refl))) e

pub pair_back : {J : ℕ → ℕ → Type 0} {E : ℕ → Type 0} {p q : ℕ} → E p → Reach (Added J (p ∷ q ∷ [])) E q p
pair_back e = reach_one (added (Memᴰ.tail (Memᴰ.head refl)) (Memᴰ.head refl)) e

pub link_step : {X : Variables} {W : Table} {E : ℕ → Type 0} {C : List ℕ} {u z : ℕ} → Link X W u z → E z → Reach (Added (Linked X W) C) E u z
link_step l e = reach_one (before (up l)) e

pub link_back : {X : Variables} {W : Table} {E : ℕ → Type 0} {C : List ℕ} {u z : ℕ} → Link X W u z → E u → Reach (Added (Linked X W) C) E z u
link_back l e = reach_one (before (down l)) e

pub both_sym : {X : Variables} {W : Table} {C : List ℕ} → Symmetric (Added (Linked X W) C)
both_sym = added_sym linked_sym

-- A pair to be joined may be turned round.
pub pair_turned : {X : Variables} {W : Table} {p q : ℕ} → Equal X (Added (Linked X W) (p ∷ q ∷ [])) (Added (Linked X W) (q ∷ p ∷ []))
pair_turned = record {
  there = inside_pair both_sym inside_before (λ i fp fq. pair_back fq);
  back = inside_pair both_sym inside_before (λ i fq fp. pair_back fp);
}
