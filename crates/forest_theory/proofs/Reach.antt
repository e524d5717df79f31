-- The laws of reach: transitive, simulated, monotone and symmetric; and of a clause added to the joins.
use Prim.Native.Nat.{ℕ, ◌≤◌}
use mathlib.Core.Path.{◌≡◌, refl, sym, ◌∙◌}
use mathlib.Core.Bool.{true, true≢false}
use mathlib.Core.List.Memᴰ
use mathlib.Core.List.{List, [], ◌∷◌, ◌++◌, Memᴰ}
use mathlib.Core.Logic.{◌⊎◌, inl, inr, ◌↔◌}
use native.Mathlib.Omega.{arith}
use Rattle.forest_theory.specs.Reach.{Variables, From, Joined, Reach, here, step, Depends, Follows}
use Rattle.forest_theory.specs.InnerVariables.{Universal}
use Rattle.forest_theory.specs.InnerGrowth.{before, added, Added}

-- Joins that go both ways.
abbrev pub Symmetric : (ℕ → ℕ → Type 0) → Type 0
Symmetric J = (a b : ℕ) → J a b → J b a

module _ {J : ℕ → ℕ → Type 0} {E : ℕ → Type 0} where
  -- One step is reach.
  pub reach_one : {v y : ℕ} → J v y → E y → Reach J E v y
  reach_one j e = step here j e

  -- Reach from what is reached is reach.
  pub reach_trans : {v y z : ℕ} → Reach J E v y → Reach J E y z → Reach J E v z
  reach_trans r here = r
  reach_trans r (step s j e) = step (reach_trans r s) j e

  -- What is reached from what E allows is allowed.
  pub reach_ends : {v y : ℕ} → E v → Reach J E v y → E y
  reach_ends v here = v
  reach_ends v (step r j e) = e

  -- Symmetric, for symmetric joins and a start that may be stepped on (Lonsing and Biere, lemma 4.10).
  pub reach_sym : Symmetric J → {v y : ℕ} → E v → Reach J E v y → Reach J E y v
  reach_sym flip v here = here
  reach_sym flip v (step {y = y} {z = z} r j e) = reach_trans (reach_one (flip y z j) (reach_ends v r)) (reach_sym flip v r)

  -- Reach is no step, or a first one and reach from there.
  pub reach_first : {v y : ℕ} → Reach J E v y → (v ≡ y) ⊎ Follows J J E v y
  reach_first here = inl refl
  reach_first {v} (step {y = a} {z = b} r j e) = go (reach_first r)
    where
      go : (v ≡ a) ⊎ Follows J J E v a → (v ≡ b) ⊎ Follows J J E v b
      go (inl s) = inr (record { first = b; starts = rw s j; allowed = e; onward = here })
      go (inr f) = inr (record { first = f.first; starts = f.starts; allowed = f.allowed; onward = step f.onward j e })

  -- And the other way.
  pub follows_reach : {v y : ℕ} → Follows J J E v y → Reach J E v y
  follows_reach f = reach_trans (reach_one f.starts f.allowed) f.onward

module _ {J K : ℕ → ℕ → Type 0} {E F : ℕ → Type 0} where
  -- Simulation: if each step from an allowed place can be done by K into F, then so can reach from an allowed place.
  pub simulate : ((a b : ℕ) → E a → E b → J a b → Reach K F a b) → {v y : ℕ} → E v → Reach J E v y → Reach K F v y
  simulate does v here = here
  simulate does v (step {y = a} {z = b} r j e) = reach_trans (simulate does v r) (does a b (reach_ends v r) e j)

  -- Monotone in the joins and in what may be stepped on, from any start.
  pub reach_mono : ((a b : ℕ) → J a b → K a b) → ((a : ℕ) → E a → F a) → {v y : ℕ} → Reach J E v y → Reach K F v y
  reach_mono joins steps here = here
  reach_mono joins steps (step {y = a} {z = b} r j e) = step (reach_mono joins steps r) (joins a b j) (steps b e)

-- What a level allows.
pub allow : {X : Variables} {i v : ℕ} → X.ex v ≡ true → i ≤ X.lev v → From X i v
allow e d = record { existential = e; deep = d }

-- What a level allows, a lesser level allows.
pub from_less : {X : Variables} {i j v : ℕ} → i ≤ j → From X j v → From X i v
from_less h f = allow f.existential (omega (arith, f.deep))

-- Along more joins more is reached ...
pub reach_along : {J K : ℕ → ℕ → Type 0} {E : ℕ → Type 0} {v y : ℕ} → ((a b : ℕ) → J a b → K a b) → Reach J E v y → Reach K E v y
reach_along joins r = reach_mono joins (λ a e. e) r

-- ... and at a lesser level (Lonsing and Biere, corollary 4.7).
pub reach_level : {X : Variables} {J : ℕ → ℕ → Type 0} {i j v y : ℕ} → i ≤ j → Reach J (From X j) v y → Reach J (From X i) v y
reach_level h r = reach_mono (λ a b j. j) (λ a f. from_less h f) r

-- The set of a universal, by its first step: x itself is no existential.
pub depends_follows : {X : Variables} {J : ℕ → ℕ → Type 0} {x y : ℕ} → Universal X x
    → Depends X J x y ↔ Follows J J (From X (X.lev x)) x y
depends_follows {X} {J} {x} {y} u = (
  λ d. go d (reach_first d.reached),
  λ f. record { existential = (reach_ends f.allowed f.onward).existential; reached = follows_reach f },
)
  where
    go : Depends X J x y → (x ≡ y) ⊎ Follows J J (From X (X.lev x)) x y → Follows J J (From X (X.lev x)) x y
    go d (inl e) = absurd (true≢false (sym d.existential ∙ (rw (← e) u.universal)))
    go d (inr f) = f

-- Sharing a clause is symmetric.
pub joined_sym : {cs : List (List ℕ)} → Symmetric (Joined cs)
joined_sym a b j = record { clause = j.clause; listed = j.listed; left = j.right; right = j.left }

-- A clause at the end of the list is a clause added.
pub joined_added : {cs : List (List ℕ)} {C : List ℕ} (a b : ℕ) → Joined (cs ++ (C ∷ [])) a b ↔ Added (Joined cs) C a b
joined_added {cs} {C} a b = (λ j. go j (Memᴰ.append_cases cs j.listed), back)
  where
    go : (j : Joined (cs ++ (C ∷ [])) a b) → Memᴰ j.clause cs ⊎ Memᴰ j.clause (C ∷ []) → Added (Joined cs) C a b
    go j (inl m) = before (record { clause = j.clause; listed = m; left = j.left; right = j.right })
    go j (inr m) = let e = Memᴰ.eq_of_singleton m in added (rw e at j.left) (rw e at j.right)

    back : Added (Joined cs) C a b → Joined (cs ++ (C ∷ [])) a b
    back (before j) = record { clause = j.clause; listed = Memᴰ.append_left (C ∷ []) j.listed; left = j.left; right = j.right }
    back (added l r) = record { clause = C; listed = Memᴰ.append_right cs (Memᴰ.head refl); left = l; right = r }

-- Joins stay symmetric with a clause added.
pub added_sym : {J : ℕ → ℕ → Type 0} {C : List ℕ} → Symmetric J → Symmetric (Added J C)
added_sym flip a b (before j) = before (flip a b j)
added_sym flip a b (added l r) = added r l
