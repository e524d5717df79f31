-- Of the joins only those count along which a step may go: to an existential, from another one or from what is not deeper. Where these are kept, so are
-- reach, the forest, the sets and the entry points.
use Prim.Native.Nat.{ℕ, ◌≤◌}
use mathlib.Core.Path.{◌≡◌, subst}
use mathlib.Core.Bool.{Bool, true}
use mathlib.Core.List.{List}
use mathlib.Core.Logic.{◌⊎◌, inl, inr}
use native.Mathlib.Omega.{arith}
use Rattle.forest_theory.specs.Reach.{Variables, From, Joined, Reach, here, Depends, Follows, StrictlyDepends}
use Rattle.forest_theory.specs.InnerVariables.{Lawful}
use Rattle.forest_theory.specs.Tables.{Table, EntryPointOf, StrictEntryOf}
use Rattle.forest_theory.specs.Forest.{Forest}
use Rattle.forest_theory.proofs.Reach.{reach_one, reach_first, follows_reach, simulate}
use Rattle.forest_theory.proofs.Forest.{represents_forest, represents_reach}
use Rattle.forest_theory.proofs.Growth.{forest_is}

-- A step may go from a to b.
pub record Step (X : Variables) (a b : ℕ) : Type 0 where
  pub to : X.ex b ≡ true
  pub from : (X.ex a ≡ true) ⊎ (X.lev a ≤ X.lev b)

-- What J joins K joins too, wherever a step may go.
pub record Carries (X : Variables) (J K : ℕ → ℕ → Type 0) : Type 0 where
  pub carried : (a b : ℕ) → Step X a b → J a b → K a b

module _ {X : Variables} {J K : ℕ → ℕ → Type 0} (k : Carries X J K) where
  -- Steps between existentials stay ...
  pub reach_carried : {i v y : ℕ} → From X i v → Reach J (From X i) v y → Reach K (From X i) v y
  reach_carried {i} start r =
      simulate {J = J} {K = K} {E = From X i} {F = From X i} (λ a b fa fb j. reach_one (k.carried a b (record { to = fb.existential; from = inl fa.existential }) j) fb) start r

  -- ... and so does what follows from x, whose first step goes to what is not less deep.
  pub follows_carried : {S T : ℕ → ℕ → Type 0} {x y : ℕ} → Carries X S T → Follows S J (From X (X.lev x)) x y → Follows T K (From X (X.lev x)) x y
  follows_carried {x = x} s f =
      record {
        first = f.first;
        starts = s.carried x f.first (record { to = f.allowed.existential; from = inr f.allowed.deep }) f.starts;
        allowed = f.allowed;
        onward = reach_carried f.allowed f.onward;
      }

  -- So what depends on x stays, strictly too.
  pub depends_carried : {x y : ℕ} → Depends X J x y → Depends X K x y
  depends_carried {x} {y} d = record { existential = d.existential; reached = go (reach_first d.reached) }
    where
      go : (x ≡ y) ⊎ Follows J J (From X (X.lev x)) x y → Reach K (From X (X.lev x)) x y
      go (inl e) = subst (Reach K (From X (X.lev x)) x) e here
      go (inr f) = follows_reach (follows_carried k f)

  pub strictly_carried : {S T : Bool → ℕ → ℕ → Type 0} {x y : ℕ} → ((sign : Bool) → Carries X (S sign) (T sign)) → StrictlyDepends X S J x y → StrictlyDepends X T K x y
  strictly_carried s d = record { by = λ sign. follows_carried (s sign) (d.by sign) }

-- The forest stays, where the joins go both ways.
pub forest_carried : {X : Variables} {cs ds : List (List ℕ)} {W : Table} → Lawful X → Carries X (Joined cs) (Joined ds)
    → Carries X (Joined ds) (Joined cs) → Forest X (Joined cs) W → Forest X (Joined ds) W
forest_carried lawful to back f = represents_forest (represents_reach (λ i v y fv fy. (reach_carried to fv, reach_carried back fv)) ((forest_is lawful).0 f))

-- By any table the entry points of x stay, strict ones too.
pub entries_carried : {X : Variables} {W : Table} {S T : ℕ → ℕ → Type 0} {x e : ℕ} → Carries X S T → EntryPointOf X W S x e → EntryPointOf X W T x e
entries_carried {x = x} s o =
    record {
      for = o.for;
      shares = s.carried x o.for (record { to = o.existential; from = inr (let l = o.deeper in omega arith) }) o.shares;
      existential = o.existential;
      deeper = o.deeper;
      rises = o.rises;
      entry = o.entry;
    }

pub strict_entries_carried : {X : Variables} {W : Table} {S T : Bool → ℕ → ℕ → Type 0} {x e : ℕ} → ((sign : Bool) → Carries X (S sign) (T sign)) → StrictEntryOf X W S x e → StrictEntryOf X W T x e
strict_entries_carried s p = record { by = λ sign. entries_carried (s sign) (p.by sign) }
