-- Demand 3, second sentence: a clause that leaves x alone changes neither the set nor the entry points of x, nor a class below them.
use Prim.Native.Nat.{ℕ, suc, ◌<◌}
use mathlib.Core.Path.{◌≡◌, sym, ◌∙◌, ap, subst, subst₂}
use mathlib.Core.Bool.{true}
use mathlib.Core.List.{List, [], ◌∷◌, ◌++◌, Memᴰ}
use mathlib.Core.Logic.{◌⊎◌, inl, inr, ◌↔◌, ◌≢◌, by_cases}
use native.Mathlib.Decide.{ℕ_discrete}
use native.Mathlib.Omega.{arith}
use Rattle.forest_theory.specs.Reach.{Variables, From, Joined, Reach, here, step, Depends, Follows}
use Rattle.forest_theory.specs.InnerVariables.{Lawful, Universal}
use Rattle.forest_theory.specs.Tables.{Table, ClassName, WellFormed, Above, start, rise, EntryPoint, EntryPointOf}
use Rattle.forest_theory.specs.Forest.{Forest}
use Rattle.forest_theory.specs.Growth.{LeavesAlone}
use Rattle.forest_theory.specs.InnerGrowth.{before, added, Added}
use Rattle.forest_theory.specs.InnerClimb.{top, Represents}
use Rattle.forest_theory.specs.InnerFused.{Marked, FusedClass, merged, kept, FusedParent, chained, carried, Fused}
use Rattle.forest_theory.proofs.Reach.{reach_first, reach_ends, reach_one, reach_trans, reach_along, reach_level, allow, joined_added}
use Rattle.forest_theory.proofs.Climb.{Ends, above_falls, entry_ends, climb_entry, entry_one}
use Rattle.forest_theory.proofs.Represent.{from_class, class_top, parent_top}
use Rattle.forest_theory.proofs.Fuse.{marked_least, zero_universal, new_class, fused_formed}
use Rattle.forest_theory.proofs.Growth.{forest_is, forest_fused}
use Rattle.forest_theory.proofs.Sets.{depends_deeper}

module _ {X : Variables} {J : ℕ → ℕ → Type 0} {C : List ℕ} {x : ℕ} (alone : LeavesAlone X J C x) where
  -- The clause has nothing that x reaches.
  alone_reached : {y : ℕ} → Reach J (From X (X.lev x)) x y → Memᴰ y C → ⊥
  alone_reached {y} r m = go (reach_first r)
    where
      go : (x ≡ y) ⊎ Follows J J (From X (X.lev x)) x y → ⊥
      go (inl e) = alone.itself (rw e m)
      go (inr f) = alone.set y (record { existential = (reach_ends f.allowed f.onward).existential; reached = r }) m

  -- So from anything that x reaches, nothing more is reached.
  alone_reach : {y z : ℕ} → Reach J (From X (X.lev x)) x y → Reach (Added J C) (From X (X.lev x)) y z → Reach J (From X (X.lev x)) y z
  alone_reach r here = here
  alone_reach r (step s (before j) e) = step (alone_reach r s) j e
  alone_reach r (step s (added l m) e) = absurd (alone_reached (reach_trans r (alone_reach r s)) l)

  -- The set of x stays.
  pub alone_set : {y : ℕ} → Depends X (Added J C) x y ↔ Depends X J x y
  alone_set = (
    λ d. record { existential = d.existential; reached = alone_reach here d.reached },
    λ d. record { existential = d.existential; reached = reach_along (λ a b. before) d.reached },
  )

  -- What follows from x by any first steps that are joins stays, where the steps do: the premise speaks of the set by all joins.
  pub alone_follows : {S S' : ℕ → ℕ → Type 0} {y : ℕ} → ((z : ℕ) → S x z → J x z) → ((z : ℕ) → S x z ↔ S' x z)
      → Follows S J (From X (X.lev x)) x y ↔ Follows S' (Added J C) (From X (X.lev x)) x y
  alone_follows {S} {S'} {y} starts same = (
    λ f. record { first = f.first; starts = (same f.first).0 f.starts; allowed = f.allowed; onward = reach_along (λ a b. before) f.onward },
    λ f. let s = (same f.first).1 f.starts in let on = alone_reach (reach_one (starts f.first s) f.allowed) f.onward in
        record { first = f.first; starts = s; allowed = f.allowed; onward = on },
  )

module _ {X : Variables} {J : ℕ → ℕ → Type 0} {C : List ℕ} {W W' : Table} {x : ℕ}
    (lawful : Lawful X) (rep : Represents X J W) (fused : Fused X W C W') (u : Universal X x) (alone : LeavesAlone X J C x) where
  -- The two tables are well formed.
  abbrev formed : WellFormed X W
  formed = rep.formed

  abbrev formed' : WellFormed X W'
  formed' = fused_formed lawful formed fused

  -- What has the top of a variable in the set of x, at the first level deeper than x, is in the set.
  set_top : {y z : ℕ} → Depends X J x y → From X (suc (X.lev x)) z → top X W (suc (X.lev x)) y ≡ top X W (suc (X.lev x)) z → Depends X J x z
  set_top {y} {z} d f e = record {
    existential = f.existential;
    reached = reach_trans d.reached (reach_level (omega arith) ((rep.tops (suc (X.lev x)) y z (depends_deeper u d) f).1 e));
  }

  -- So is its class ...
  set_class : {y : ℕ} → Depends X J x y → Depends X J x (W.cls y)
  set_class {y} d = set_top d (from_class formed (depends_deeper u d)) (sym (class_top formed (suc (X.lev x)) y d.existential))

  -- ... and, while deeper than x, the parent of a class in it.
  set_parent : {c : ℕ} → Depends X J x c → W.par c ≢ 0 → X.lev x < X.lev (W.par c) → Depends X J x (W.par c)
  set_parent {c} d n l = set_top d (allow ((formed.right c).parent n).name.existential l) (parent_top formed n l)

  -- No class in the set of x is marked.
  alone_unmarked : {m : ℕ} → Marked X W C m → Depends X J x m → ⊥
  alone_unmarked = marked_least (λ m. Depends X J x m → ⊥) class parent
    where
      class : (e : ℕ) → Memᴰ e C → X.ex e ≡ true → Depends X J x (W.cls e) → ⊥
      class e l ex d = alone.set e (set_top d (allow ex (omega (arith, (depends_deeper u d).deep, ((formed.right e).class ex).block)))
          (class_top formed (suc (X.lev x)) e ex)) l

      parent : (m : ℕ) → (Depends X J x m → ⊥) → W.par m ≢ 0 → Depends X J x (W.par m) → ⊥
      parent m un n d =
          let r = (formed.right m).parent n in
          let l = (depends_deeper u d).deep in
          un (set_top d (allow r.child.existential (omega (arith, r.less))) (sym (parent_top formed n l)))

  -- The class row of a variable in the set of x stays.
  pub alone_class : {y : ℕ} → Depends X J x y → W'.cls y ≡ W.cls y
  alone_class {y} d = go (fused.class y d.existential)
    where
      go : FusedClass X W C y (W'.cls y) → W'.cls y ≡ W.cls y
      go (merged k h e) = absurd (alone_unmarked k (set_class d))
      go (kept un e) = e

  -- The parent row of a class in the set becomes the new class of its parent.
  alone_row : {c : ℕ} → ClassName X W c → Depends X J x c → W'.par c ≡ W'.cls (W.par c)
  alone_row {c} n d = go (fused.parent c n (alone_class d ∙ n.itself))
    where
      go : FusedParent X W C W' c (W'.par c) → W'.par c ≡ W'.cls (W.par c)
      go (chained k h) = absurd (alone_unmarked k d)
      go (carried un e) = e

  -- A class in the set with no parent gets none.
  alone_orphan : {c : ℕ} → ClassName X W c → Depends X J x c → W.par c ≡ 0 → W'.par c ≡ 0
  alone_orphan n d z = alone_row n d ∙ ap W'.cls z ∙ (fused.universal 0 (zero_universal lawful)).0

  -- It stays, unless the parent is not deeper than x ...
  pub alone_parent : {c : ℕ} → ClassName X W c → Depends X J x c → (W.par c ≢ 0 → X.lev x < X.lev (W.par c)) → W'.par c ≡ W.par c
  alone_parent {c} n d l = by_cases (ℕ_discrete (W.par c) 0) (λ z. alone_orphan n d z ∙ sym z)
      (λ p. alone_row n d ∙ alone_class (set_parent d p (l p)) ∙ ((formed.right c).parent p).name.itself)

  -- ... and then the new one is not either.
  alone_stop : {c : ℕ} → ClassName X W c → Depends X J x c → (W.par c ≢ 0 → X.lev (W.par c) < suc (X.lev x)) → W'.par c ≢ 0
      → X.lev (W'.par c) < suc (X.lev x)
  alone_stop {c} n d s q = by_cases (ℕ_discrete (W.par c) 0) (λ z. absurd (q (alone_orphan n d z)))
      (λ p. omega (arith, s p, ap X.lev (alone_row n d), (new_class lawful formed fused ((formed.right c).parent p).name.existential).block))

  -- So the climb from a class in the set stays, rise by rise.
  alone_above : {e c k : ℕ} → Above W e c k → X.lev x < X.lev e → ClassName X W c → Depends X J x c → Above W' e c k × Depends X J x e × ClassName X W e
  alone_above start l n d = (start, d, n)
  alone_above {e} (rise {c = c} {k = k} p a) l n d =
      let deep : X.lev x < X.lev (W.par c) = omega (arith, above_falls formed a) in
      let same = alone_parent n d (λ q. deep) in
      let up = alone_above a l ((formed.right c).parent p).name (set_parent d p deep) in
      (rise (λ z. p (sym same ∙ z)) (subst (λ (q : ℕ). Above W' e q k) (sym same) up.0), up.1, up.2)

  -- With it the entry point.
  alone_ends : {y e k : ℕ} → Depends X J x y → EntryPoint X W x y e k → EntryPoint X W' x y e k
  alone_ends {y} {e} {k} d h =
      let s = (entry_ends formed).0 h in
      let up = alone_above s.above s.deep ((formed.right y).class d.existential).name (set_class d) in
      let at_class : Ends X W' (suc (X.lev x)) (W.cls y) e k = record { above = up.0; deep = s.deep; stop = alone_stop up.2 up.1 s.stop } in
      (entry_ends formed').1 (subst (λ (c : ℕ). Ends X W' (suc (X.lev x)) c e k) (sym (alone_class d)) at_class)

  -- The entry point of x for a variable in its set stays, and its number of rises.
  pub alone_entry : {y e k : ℕ} → Depends X J x y → EntryPoint X W x y e k ↔ EntryPoint X W' x y e k
  alone_entry {y} {e} {k} d = (alone_ends d, back)
    where
      back : EntryPoint X W' x y e k → EntryPoint X W x y e k
      back h =
          let f = depends_deeper u d in
          let old = climb_entry formed {x = x} y f.existential f.deep in
          let same = entry_one formed' (alone_ends d old) h in
          subst₂ (EntryPoint X W x y) same.0 same.1 old

  -- The entry points of x stay, by any first steps that are joins, where the steps do.
  pub alone_entries : {S S' : ℕ → ℕ → Type 0} {e : ℕ} → ((z : ℕ) → S x z → J x z) → ((z : ℕ) → S x z ↔ S' x z)
      → EntryPointOf X W S x e ↔ EntryPointOf X W' S' x e
  alone_entries {S} {S'} {e} starts same = (
    λ o. let e = (alone_entry (in_set o.shares o.existential o.deeper)).0 o.entry in
        let s = (same o.for).0 o.shares in
        record { for = o.for; shares = s; existential = o.existential; deeper = o.deeper; rises = o.rises; entry = e },
    λ o. let s = (same o.for).1 o.shares in
        let e = (alone_entry (in_set s o.existential o.deeper)).1 o.entry in
        record { for = o.for; shares = s; existential = o.existential; deeper = o.deeper; rises = o.rises; entry = e },
  )
    where
      in_set : {y : ℕ} → S x y → X.ex y ≡ true → X.lev x < X.lev y → Depends X J x y
      in_set {y} s ex l = record { existential = ex; reached = reach_one (starts y s) (allow ex (omega arith)) }

-- Of lists, where the clause stands last in the longer one: the set of x stays.
pub set_stays : {X : Variables} {cs : List (List ℕ)} {C : List ℕ} {x y : ℕ} → LeavesAlone X (Joined cs) C x
    → Depends X (Joined cs) x y ↔ Depends X (Joined (cs ++ (C ∷ []))) x y
set_stays {X} {cs} {C} {x} {y} alone = (
  λ d. longer ((alone_set alone).1 d),
  λ d. (alone_set alone).0 (record { existential = d.existential; reached = reach_along (λ a b. (joined_added a b).0) d.reached }),
)
  where
    longer : Depends X (Added (Joined cs) C) x y → Depends X (Joined (cs ++ (C ∷ []))) x y
    longer d = record { existential = d.existential; reached = reach_along (λ a b. (joined_added a b).1) d.reached }

-- Where the clause has no x, the clauses that have x are those of the shorter list.
joined_stay : {X : Variables} {cs : List (List ℕ)} {C : List ℕ} {x : ℕ} → LeavesAlone X (Joined cs) C x → (z : ℕ) → Joined cs x z ↔ Joined (cs ++ (C ∷ [])) x z
joined_stay {X} {cs} {C} {x} alone z = (λ j. (joined_added x z).1 (before j), λ j. go ((joined_added x z).0 j))
  where
    go : Added (Joined cs) C x z → Joined cs x z
    go (before j) = j
    go (added l r) = absurd (alone.itself l)

module _ {X : Variables} {cs : List (List ℕ)} {C : List ℕ} {x : ℕ} (alone : LeavesAlone X (Joined cs) C x) {S S' : ℕ → ℕ → Type 0}
    (starts : (z : ℕ) → S x z → Joined cs x z) (same : (z : ℕ) → S x z ↔ S' x z) where
  -- What follows by any first steps stays with them ...
  pub follows_stay : {y : ℕ} → Follows S (Joined cs) (From X (X.lev x)) x y ↔ Follows S' (Joined (cs ++ (C ∷ []))) (From X (X.lev x)) x y
  follows_stay = (
    λ f. along (λ a b. (joined_added a b).1) ((alone_follows alone starts same).0 f),
    λ f. (alone_follows alone starts same).1 (along (λ a b. (joined_added a b).0) f),
  )
    where
      along : {J K : ℕ → ℕ → Type 0} {y : ℕ} → ((a b : ℕ) → J a b → K a b) → Follows S' J (From X (X.lev x)) x y → Follows S' K (From X (X.lev x)) x y
      along more f = record { first = f.first; starts = f.starts; allowed = f.allowed; onward = reach_along more f.onward }

  -- ... and so do the entry points, by the forests of the two lists.
  pub steps_stay : {W W' : Table} {e : ℕ} → Lawful X → Forest X (Joined cs) W → Forest X (Joined (cs ++ (C ∷ []))) W' → Universal X x
      → EntryPointOf X W S x e ↔ EntryPointOf X W' S' x e
  steps_stay lawful f g u = alone_entries lawful ((forest_is lawful).0 f) (forest_fused lawful f g) u alone starts same

-- The entry points of x by the forest of the longer list are those by the forest of the shorter one.
pub entries_stay : {X : Variables} {cs : List (List ℕ)} {C : List ℕ} {W W' : Table} {x e : ℕ} → Lawful X
    → Forest X (Joined cs) W → Forest X (Joined (cs ++ (C ∷ []))) W' → Universal X x → LeavesAlone X (Joined cs) C x
    → EntryPointOf X W (Joined cs) x e ↔ EntryPointOf X W' (Joined (cs ++ (C ∷ []))) x e
entries_stay lawful f g u alone = steps_stay alone (λ z j. j) (joined_stay alone) lawful f g u
