-- The links of a well-formed table: reach along them at a level is equality of the tops at that level.
use Prim.Native.Nat.{ℕ, ◌≤◌}
use mathlib.Core.Path.{◌≡◌, refl, sym, ◌∙◌, ap}
use mathlib.Core.Bool.{true}
use mathlib.Core.Logic.{◌↔◌, ◌≢◌}
use native.Mathlib.Omega.{arith}
use Rattle.forest_theory.specs.Reach.{Variables, From, Reach, here, step}
use Rattle.forest_theory.specs.Tables.{Table, WellFormed, Above, start, rise}
use Rattle.forest_theory.specs.InnerClimb.{climb, top}
use Rattle.forest_theory.proofs.Reach.{Symmetric, reach_one, reach_trans, reach_sym, reach_ends}
use Rattle.forest_theory.proofs.Climb.{above_falls, ends_exist, top_ends, top_exists, top_class}

-- The two kinds of join that a table stands for: an existential and its class name, a class and its parent.
pub data Link (X : Variables) (W : Table) (u z : ℕ) : Type 0 where
  to_class : X.ex u ≡ true → W.cls u ≡ z → Link X W u z
  to_parent : W.par u ≢ 0 → W.par u ≡ z → Link X W u z

-- Two that one of these joins ties, in either order.
pub data Linked (X : Variables) (W : Table) (u z : ℕ) : Type 0 where
  up : Link X W u z → Linked X W u z
  down : Link X W z u → Linked X W u z

-- Links are symmetric.
pub linked_sym : {X : Variables} {W : Table} → Symmetric (Linked X W)
linked_sym a b (up l) = down l
linked_sym a b (down l) = up l

module _ {X : Variables} {W : Table} (formed : WellFormed X W) where
  -- The class of an existential of block i or deeper is one.
  pub from_class : {i v : ℕ} → From X i v → From X i (W.cls v)
  from_class {v = v} f =
      let r = (formed.right v).class f.existential in
      record { existential = r.name.existential; deep = omega (arith, f.deep, r.block) }

  -- A class that may rise has its parent's top.
  pub parent_top : {i c : ℕ} → W.par c ≢ 0 → i ≤ X.lev (W.par c) → top X W i c ≡ top X W i (W.par c)
  parent_top {i} {c} n d =
      let r = (formed.right c).parent n in
      let e = ends_exist formed (W.par c) d in
      top_class formed r.child (record { above = rise n e.2.above; deep = e.2.deep; stop = e.2.stop }) ∙ sym (top_class formed r.name e.2)

  -- The class of an existential has its top.
  pub class_top : (i v : ℕ) → X.ex v ≡ true → top X W i (W.cls v) ≡ top X W i v
  unfolding top
  class_top i v ex = ap (λ (c : ℕ). (climb X W i c 0).top) ((formed.right v).class ex).name.itself

  -- The top at an existential's own level is its class.
  pub own_top : {i : ℕ} (v : ℕ) → X.ex v ≡ true → i ≡ X.lev v → top X W i v ≡ W.cls v
  own_top v ex l =
      let b = ((formed.right v).class ex).block in
      top_ends formed v (record { above = start; deep = omega arith; stop = λ n. omega (arith, ((formed.right (W.cls v)).parent n).less) })

  -- The top is the same along a link.
  link_top : {i u z : ℕ} → Link X W u z → From X i u → From X i z → top X W i u ≡ top X W i z
  link_top {i} {u} {z} (to_class ex e) fu fz = sym (class_top i u ex) ∙ ap (top X W i) e
  link_top {i} {u} {z} (to_parent n e) fu fz = parent_top n (rw e fz.deep) ∙ ap (top X W i) e

  -- Either way ...
  linked_top : {i u z : ℕ} → Linked X W u z → From X i u → From X i z → top X W i u ≡ top X W i z
  linked_top (up l) fu fz = link_top l fu fz
  linked_top (down l) fu fz = sym (link_top l fz fu)

  -- ... and along any number of links.
  reach_top : {i v y : ℕ} → From X i v → Reach (Linked X W) (From X i) v y → top X W i v ≡ top X W i y
  reach_top f here = refl
  reach_top f (step r j e) = reach_top f r ∙ linked_top j (reach_ends f r) e

  -- From a class, what stands above it in block i or deeper is reached by links.
  pub above_reach : {i p c k : ℕ} → Above W p c k → i ≤ X.lev p → Reach (Linked X W) (From X i) c p
  above_reach start d = here
  above_reach {i} (rise {c = c} n a) d =
      let f : From X i (W.par c) = record { existential = ((formed.right c).parent n).name.existential; deep = omega (arith, above_falls formed a) } in
      reach_trans (reach_one (up (to_parent n refl)) f) (above_reach a d)

  -- From an existential of block i or deeper its top is reached by links.
  reach_to_top : {i v : ℕ} → From X i v → Reach (Linked X W) (From X i) v (top X W i v)
  reach_to_top f =
      let e = top_exists formed f in
      reach_trans (reach_one (up (to_class f.existential refl)) (from_class f)) (above_reach e.1.above e.1.deep)

  -- Theorem (a), along links.
  pub linked_tops : {i v y : ℕ} → From X i v → From X i y → Reach (Linked X W) (From X i) v y ↔ (top X W i v ≡ top X W i y)
  linked_tops {i} {v} {y} fv fy = (reach_top fv, λ e. reach_trans (rw e at (reach_to_top fv)) (reach_sym linked_sym fy (reach_to_top fy)))
