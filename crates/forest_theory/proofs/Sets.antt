-- Demand 2: by the forest, the members at or below the entry points of x are exactly the set of x.
use Prim.Native.Nat.{ℕ, suc, ◌<◌}
use mathlib.Core.Path.{◌≡◌, refl, sym, ◌∙◌, ap, subst}
use mathlib.Core.Bool.{true}
use mathlib.Core.List.{List}
use mathlib.Core.Logic.Iff
use mathlib.Core.Logic.{◌↔◌}
use native.Mathlib.Omega.{arith}
use Rattle.forest_theory.specs.Reach.{Variables, From, Joined, Depends, Follows}
use Rattle.forest_theory.specs.InnerVariables.{Lawful, Universal}
use Rattle.forest_theory.specs.Tables.{Table, ClassName, WellFormed, Above, start, rise, EntryPoint, EntryPointOf, MemberBy}
use Rattle.forest_theory.specs.InnerMembers.{Member}
use Rattle.forest_theory.specs.Forest.{Forest, ClassAbove, AtOrAbove, at, over, EntryClass}
use Rattle.forest_theory.specs.InnerClimb.{Climbed, climb, top, Represents}
use Rattle.forest_theory.proofs.Reach.{reach_mono, reach_level, reach_ends, allow, from_less, depends_follows}
use Rattle.forest_theory.proofs.Climb.{Ends, above_falls, above_class, above_strict, climb_ends, climb_entry, entry_ends, top_ends, top_exists, top_class}
use Rattle.forest_theory.proofs.Represent.{own_top}
use Rattle.forest_theory.proofs.Forest.{names_one, represents_class, represents_name}
use Rattle.forest_theory.proofs.Growth.{forest_is}

-- No existential has a universal's own level, so what its level allows is deeper than it.
pub from_deeper : {X : Variables} {x v : ℕ} → Universal X x → From X (X.lev x) v → From X (suc (X.lev x)) v
from_deeper {v = v} u f = record { existential = f.existential; deep = let n = u.alone v f.existential in omega (arith, f.deep) }

-- An entry point by some first steps is one by more first steps.
pub entries_along : {X : Variables} {W : Table} {S T : ℕ → ℕ → Type 0} {x e : ℕ} → ((z : ℕ) → S x z → T x z) → EntryPointOf X W S x e → EntryPointOf X W T x e
entries_along more o = record { for = o.for; shares = more o.for o.shares; existential = o.existential; deeper = o.deeper; rises = o.rises; entry = o.entry }

-- What is in the set of x is deeper than x.
pub depends_deeper : {X : Variables} {J : ℕ → ℕ → Type 0} {x y : ℕ} → Universal X x → Depends X J x y → From X (suc (X.lev x)) y
depends_deeper u d = let f = (depends_follows u).0 d in from_deeper u (reach_ends f.allowed f.onward)

module _ {X : Variables} {W : Table} (formed : WellFormed X W) where
  -- Members by some of the entry points of x.
  module _ {P : ℕ → Type 0} {S : ℕ → ℕ → Type 0} {x : ℕ} (points : (e : ℕ) → P e → EntryPointOf X W S x e) where
    -- The climb from the class of a member ends at the entry point that it is a member by.
    member_ends : {y : ℕ} (m : MemberBy X W P y) → Ends X W (suc (X.lev x)) (W.cls y) m.entry m.rises
    member_ends m = let e = (entry_ends formed).0 (points m.entry m.entered).entry in record { above = m.below; deep = e.deep; stop = e.stop }

    -- So a member is deeper than x ...
    pub member_deeper : {y : ℕ} → MemberBy X W P y → From X (suc (X.lev x)) y
    member_deeper {y} m = allow m.existential
        (omega (arith, above_falls formed m.below, (member_ends m).deep, ((formed.right y).class m.existential).block))

    -- ... and an existential y deeper than x is a member exactly if the entry point of x for y is one of them.
    pub member_climb : {y : ℕ} → X.ex y ≡ true → X.lev x < X.lev y → MemberBy X W P y ↔ P (climb X W (suc (X.lev x)) (W.cls y) 0).top
    member_climb {y} ex l = (
      λ m. subst P (sym (ap (λ (c : Climbed). c.top) (climb_ends formed (member_ends m) 0))) m.entered,
      λ o. let c = climb X W (suc (X.lev x)) (W.cls y) 0 in
          record { existential = ex; entry = c.top; entered = o; rises = c.rises; below = (climb_entry formed y ex l).above },
    )

module _ {X : Variables} {J : ℕ → ℕ → Type 0} {W : Table} (rep : Represents X J W) where
  -- What follows from x, first along S and then along J, are the members by S.
  pub follows_member : {S : ℕ → ℕ → Type 0} {x y : ℕ} → Universal X x → Follows S J (From X (X.lev x)) x y ↔ Member X W S x y
  follows_member {S} {x} {y} u = (there, back)
    where
      there : Follows S J (From X (X.lev x)) x y → Member X W S x y
      there f =
          let z = f.first in
          let fz = from_deeper u f.allowed in
          let fy = from_deeper u (reach_ends f.allowed f.onward) in
          let same : top X W (suc (X.lev x)) z ≡ top X W (suc (X.lev x)) y = (rep.tops (suc (X.lev x)) z y fz fy).0
          (reach_mono (λ a b j. j) (λ a e. from_deeper u e) f.onward) in
          let ez = top_exists rep.formed fz in
          let ey = top_exists rep.formed fy in
          record {
            existential = fy.existential;
            entry = top X W (suc (X.lev x)) z;
            entered = record { for = z; shares = f.starts; existential = fz.existential; deeper = fz.deep; rises = ez.0; entry = (entry_ends rep.formed).1 ez.1 };
            rises = ey.0;
            below = rw same ey.1.above;
          }

      back : Member X W S x y → Follows S J (From X (X.lev x)) x y
      back m =
          let o = m.entered in
          let z = o.for in
          let ez = (entry_ends rep.formed).0 o.entry in
          let fz : From X (suc (X.lev x)) z = allow o.existential o.deeper in
          let fy = member_deeper rep.formed (λ e o. o) m in
          record {
            first = z;
            starts = o.shares;
            allowed = from_less (omega arith) fz;
            onward = reach_level (omega arith)
                ((rep.tops (suc (X.lev x)) z y fz fy).1 (top_ends rep.formed z ez
                ∙ sym (top_ends rep.formed y (member_ends rep.formed (λ e o. o) m))));
          }

  -- Demand 2, for whatever joins the table represents.
  pub depends_member : {x y : ℕ} → Universal X x → Depends X J x y ↔ Member X W J x y
  depends_member u = Iff.trans (depends_follows u) (follows_member u)

  -- The classes above c by reach are those that the chain of parents passes.
  pub class_above : {p c : ℕ} → ClassName X W c → ClassAbove X J p c ↔ ((k : ℕ) × Above W p c (suc k))
  class_above {p} {c} n = (there, back)
    where
      own : ClassName X W p → top X W (X.lev p) p ≡ p
      own q = own_top rep.formed p q.existential refl ∙ q.itself

      there : ClassAbove X J p c → (k : ℕ) × Above W p c (suc k)
      there a =
          let q = (represents_name rep).0 a.class in
          let f : From X (X.lev p) c = allow n.existential (omega (arith, a.less)) in
          let is = sym ((rep.tops (X.lev p) p c (allow q.existential (omega arith)) f).0 a.reached) ∙ own q in
          above_strict rep.formed (rw n.itself at (rw is at (top_exists rep.formed f).1.above)) a.less

      back : (k : ℕ) × Above W p c (suc k) → ClassAbove X J p c
      back a =
          let q = above_class rep.formed n a.1 in
          let less : X.lev p < X.lev c = omega (arith, above_falls rep.formed a.1) in
          let is : top X W (X.lev p) c ≡ p = top_class rep.formed n
          (record { above = a.1; deep = omega arith; stop = λ h. ((rep.formed.right p).parent h).less }) in
          record {
            class = (represents_name rep).1 q;
            less = less;
            reached = (rep.tops (X.lev p) p c (allow q.existential (omega arith)) (allow n.existential (omega arith))).1 (own q ∙ sym is);
          }

  -- So whatever stands at class c or above it in the table does so by reach ...
  above_at : {p c k : ℕ} → ClassName X W c → Above W p c k → AtOrAbove X J c p
  above_at n start = at refl
  above_at n (rise h a) = over ((class_above n).1 (_, rise h a))

  -- ... and whatever does so by reach does so in the table.
  at_above : {p c : ℕ} → ClassName X W c → AtOrAbove X J c p → (k : ℕ) × Above W p c k
  at_above {p} {c} n (at e) = (0, subst (λ (q : ℕ). Above W q c 0) e start)
  at_above n (over a) = let r = (class_above n).0 a in (suc r.0, r.1)

  -- So the entry point by reach is the entry point by the table (rule 2.6).
  pub entry_class : {x y e : ℕ} → X.ex y ≡ true → EntryClass X J x y e ↔ ((k : ℕ) × EntryPoint X W x y e k)
  entry_class {x} {y} {e} ex = (
    there,
    λ h. record {
      class = W.cls y;
      names = represents_class rep y ex;
      above = above_at name h.1.above;
      deeper = h.1.deeper;
      least = λ p a d. let r = at_above name a in h.1.least p r.0 r.1 d;
    },
  )
    where
      name : ClassName X W (W.cls y)
      name = ((rep.formed.right y).class ex).name

      there : EntryClass X J x y e → (k : ℕ) × EntryPoint X W x y e k
      there h =
          let same : h.class ≡ W.cls y = names_one h.names (represents_class rep y ex) in
          let a = at_above name (subst (λ (c : ℕ). AtOrAbove X J c e) same h.above) in
          (a.0, record { above = a.1; deeper = h.deeper; least = λ p n b d. h.least p (subst (λ (c : ℕ). AtOrAbove X J c p) (sym same) (above_at name b)) d })

-- Demand 2: from a formula's own forest, the set of x is the members at or below the entry points of x.
pub set_members : {X : Variables} {cs : List (List ℕ)} {W : Table} {x y : ℕ} → Lawful X → Forest X (Joined cs) W → Universal X x
    → Depends X (Joined cs) x y ↔ Member X W (Joined cs) x y
set_members lawful f u = depends_member ((forest_is lawful).0 f) u
