-- Strict sets: by the forest they are what both signs reach; they lie within the standard sets, and are empty where one sign is missing.
use Prim.Native.Nat.{ℕ}
use mathlib.Core.Bool.{Bool, true}
use mathlib.Core.List.{List, [], ◌∷◌, ◌++◌}
use mathlib.Core.Logic.{◌↔◌}
use Rattle.forest_theory.specs.Reach.{Variables, Joined, Depends, StrictlyDepends}
use Rattle.forest_theory.specs.InnerVariables.{Lawful, Universal}
use Rattle.forest_theory.specs.Tables.{Table, WellFormed, EntryPointOf, StrictEntryOf}
use Rattle.forest_theory.specs.InnerMembers.{Member, StrictMember}
use Rattle.forest_theory.specs.Forest.{Forest}
use Rattle.forest_theory.specs.Growth.{LeavesAlone}
use Rattle.forest_theory.proofs.Reach.{depends_follows}
use Rattle.forest_theory.proofs.Growth.{forest_is}
use Rattle.forest_theory.proofs.Sets.{entries_along, member_deeper, member_climb, follows_member}
use Rattle.forest_theory.proofs.Alone.{follows_stay, steps_stay}

-- A strict member is a member by both signs: the climb from its class ends at one class, which both have.
pub strict_member : {X : Variables} {W : Table} {S : Bool → ℕ → ℕ → Type 0} {x y : ℕ} → WellFormed X W
    → StrictMember X W S x y ↔ ((sign : Bool) → Member X W (S sign) x y)
strict_member {X} {W} {S} {x} formed = (
  λ m sign. record { existential = m.existential; entry = m.entry; entered = m.entered.by sign; rises = m.rises; below = m.below },
  λ both. let f = member_deeper formed (λ e o. o) (both true) in
      (member_climb formed (λ (e : ℕ) (s : StrictEntryOf X W S x e). s.by true) f.existential f.deep).1
      (record { by = λ sign. (member_climb formed (λ e o. o) f.existential f.deep).0 (both sign) }),
)

-- Demand 2 for strict sets: from a formula's own forest, the strict set of x is the members at or below its strict entry points.
pub strict_members : {X : Variables} {cs : List (List ℕ)} {W : Table} {S : Bool → ℕ → ℕ → Type 0} {x y : ℕ} → Lawful X → Forest X (Joined cs) W → Universal X x
    → StrictlyDepends X S (Joined cs) x y ↔ StrictMember X W S x y
strict_members lawful forest u =
    let rep = (forest_is lawful).0 forest in (
      λ d. (strict_member rep.formed).1 (λ sign. (follows_member rep u).0 (d.by sign)),
      λ m. record { by = λ sign. (follows_member rep u).1 ((strict_member rep.formed).0 m sign) },
    )

-- The strict ones are within the standard ones, where a clause with x in a sign is a clause with x ...
module _ {X : Variables} {S : Bool → ℕ → ℕ → Type 0} {J : ℕ → ℕ → Type 0} {x : ℕ} (starts : (sign : Bool) (z : ℕ) → S sign x z → J x z) where
  pub strict_entry_within : {W : Table} {e : ℕ} → StrictEntryOf X W S x e → EntryPointOf X W J x e
  strict_entry_within s = entries_along (starts true) (s.by true)

  pub strict_member_within : {W : Table} {y : ℕ} → StrictMember X W S x y → Member X W J x y
  strict_member_within m = record { existential = m.existential; entry = m.entry; entered = strict_entry_within m.entered; rises = m.rises; below = m.below }

  pub strict_within : {y : ℕ} → Universal X x → StrictlyDepends X S J x y → Depends X J x y
  strict_within u d = let f = d.by true in (depends_follows u).1
      (record { first = f.first; starts = starts true f.first f.starts; allowed = f.allowed; onward = f.onward })

-- ... and there are none, where no clause has x in one of the signs.
module _ {X : Variables} {S : Bool → ℕ → ℕ → Type 0} {x : ℕ} (sign : Bool) (missing : (z : ℕ) → S sign x z → ⊥) where
  pub one_sign_entry : {W : Table} {e : ℕ} → StrictEntryOf X W S x e → ⊥
  one_sign_entry s = let o = s.by sign in missing o.for o.shares

  pub one_sign_depends : {J : ℕ → ℕ → Type 0} {y : ℕ} → StrictlyDepends X S J x y → ⊥
  one_sign_depends d = let f = d.by sign in missing f.first f.starts

-- Demand 3, second sentence, for strict sets: a clause that leaves x alone, by its standard set, changes neither its strict set nor its strict entry points.
module _ {X : Variables} {cs : List (List ℕ)} {C : List ℕ} {x : ℕ} (alone : LeavesAlone X (Joined cs) C x) {S S' : Bool → ℕ → ℕ → Type 0}
    (starts : (sign : Bool) (z : ℕ) → S sign x z → Joined cs x z) (same : (sign : Bool) (z : ℕ) → S sign x z ↔ S' sign x z) where
  pub strict_stays : {y : ℕ} → StrictlyDepends X S (Joined cs) x y ↔ StrictlyDepends X S' (Joined (cs ++ (C ∷ []))) x y
  strict_stays = (
    λ d. record { by = λ sign. (follows_stay alone (starts sign) (same sign)).0 (d.by sign) },
    λ d. record { by = λ sign. (follows_stay alone (starts sign) (same sign)).1 (d.by sign) },
  )

  pub strict_entries_stay : {W W' : Table} {e : ℕ} → Lawful X → Forest X (Joined cs) W → Forest X (Joined (cs ++ (C ∷ []))) W' → Universal X x
      → StrictEntryOf X W S x e ↔ StrictEntryOf X W' S' x e
  strict_entries_stay lawful f g u = (
    λ s. record { by = λ sign. (steps_stay alone (starts sign) (same sign) lawful f g u).0 (s.by sign) },
    λ s. record { by = λ sign. (steps_stay alone (starts sign) (same sign) lawful f g u).1 (s.by sign) },
  )
