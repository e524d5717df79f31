-- Fusing the marked chains puts a clause into a table: well formed, and it represents the joins with the clause added.
use Prim.Native.Nat.{ℕ, zero, suc, ◌+◌, ◌≤◌, ◌<◌}
use mathlib.Core.Path.{◌≡◌, refl, sym, ◌∙◌, ap, subst}
use mathlib.Core.Bool.{Bool, true, false}
use mathlib.Core.List.{List, Memᴰ}
use mathlib.Core.Logic.Iff
use mathlib.Core.Logic.{◌↔◌, ◌≢◌, by_cases}
use native.Mathlib.Decide.{ℕ_discrete, dec_le}
use native.Mathlib.Nat.{le_antisymm}
use native.Mathlib.Omega.{arith}
use Rattle.forest_theory.specs.Reach.{Variables, From, Reach, here}
use Rattle.forest_theory.specs.InnerVariables.{Lawful}
use Rattle.forest_theory.specs.Tables.{Table, ClassName, ClassRow, ParentRow, WellFormed, start}
use Rattle.forest_theory.specs.InnerGrowth.{before, added, Added}
use Rattle.forest_theory.specs.InnerClimb.{Represents}
use Rattle.forest_theory.specs.InnerFused.{Marked, Low, none_next, next_low, FusedClass, merged, kept, FusedParent, chained, carried, Fused}
use Rattle.forest_theory.proofs.Reach.{reach_one, reach_trans, reach_sym, simulate, reach_along, allow, added_sym}
use Rattle.forest_theory.proofs.Climb.{above_all, above_next, above_falls}
use Rattle.forest_theory.proofs.Represent.{Link, to_class, to_parent, Linked, up, down, linked_sym, from_class, above_reach, linked_tops}

-- No existential is 0.
existential_nonzero : {X : Variables} → Lawful X → (v : ℕ) → X.ex v ≡ true → v ≢ 0
existential_nonzero lawful v ex e = omega (arith, (lawful.within v ex).0)

-- 0 is no existential.
pub zero_universal : {X : Variables} → Lawful X → X.ex 0 ≡ false
zero_universal {X} lawful = go (X.ex 0) refl
  where
    go : (b : Bool) → X.ex 0 ≡ b → X.ex 0 ≡ false
    go true e = absurd (existential_nonzero lawful 0 e refl)
    go false e = e

-- What links reach, they reach with a clause added.
before_reach : {J : ℕ → ℕ → Type 0} {E : ℕ → Type 0} {C : List ℕ} {a b : ℕ} → Reach J E a b → Reach (Added J C) E a b
before_reach r = reach_along (λ a b. before) r

-- The marked classes are the least that have the class of each existential of the clause, and with a class its parent.
pub marked_least : {X : Variables} {W : Table} {C : List ℕ} (M : ℕ → Type 0) → ((e : ℕ) → Memᴰ e C → X.ex e ≡ true → M (W.cls e))
    → ((m : ℕ) → M m → W.par m ≢ 0 → M (W.par m)) → {m : ℕ} → Marked X W C m → M m
marked_least M class parent k = above_all M parent (class k.by k.listed k.existential) k.above

module _ {X : Variables} {W : Table} {C : List ℕ} (formed : WellFormed X W) where
  -- A marked class is a class name.
  pub marked_class : {m : ℕ} → Marked X W C m → ClassName X W m
  marked_class k = marked_least (ClassName X W) (λ e l ex. ((formed.right e).class ex).name) (λ m n h. ((formed.right m).parent h).name) k

  -- The parent of a marked class is marked.
  marked_parent : {m : ℕ} → Marked X W C m → W.par m ≢ 0 → Marked X W C (W.par m)
  marked_parent k n = record { by = k.by; listed = k.listed; existential = k.existential; rises = suc k.rises; above = above_next k.above n }

  -- A block has one low.
  low_one : {a b : ℕ} → Low X W C a → Low X W C b → X.lev a ≡ X.lev b → a ≡ b
  low_one {a} {b} l m e = le_antisymm (l.lowest b m.marked (sym e)) (m.lowest a l.marked e)

  -- The existential by which a class of block i or deeper is marked is of block i or deeper.
  marked_from : {i m : ℕ} (k : Marked X W C m) → i ≤ X.lev m → From X i k.by
  marked_from k d = allow k.existential (omega (arith, above_falls formed k.above, ((formed.right k.by).class k.existential).block))

  -- It reaches the class by links.
  marked_linked : {i m : ℕ} (k : Marked X W C m) → i ≤ X.lev m → Reach (Linked X W) (From X i) k.by m
  marked_linked k d = reach_trans (reach_one (up (to_class k.existential refl)) (from_class formed (marked_from k d))) (above_reach formed k.above d)

  -- So any two marked classes reach one another through the clause.
  marked_reach : {i m n : ℕ} → Marked X W C m → Marked X W C n → i ≤ X.lev m → i ≤ X.lev n → Reach (Added (Linked X W) C) (From X i) m n
  marked_reach {i} k l d e =
      reach_trans (before_reach (reach_sym linked_sym (marked_from k d) (marked_linked k d)))
      (reach_trans (reach_one (added k.listed l.listed) (marked_from l e)) (before_reach (marked_linked l e)))

module _ {X : Variables} {W W' : Table} {C : List ℕ} (lawful : Lawful X) (formed : WellFormed X W) (fused : Fused X W C W') where
  -- The new class of a marked class is the low of its block.
  marked_low : {m : ℕ} → Marked X W C m → Low X W C (W'.cls m) × (X.lev (W'.cls m) ≡ X.lev m)
  marked_low {m} k = go (fused.class m (marked_class formed k).existential)
    where
      go : FusedClass X W C m (W'.cls m) → Low X W C (W'.cls m) × (X.lev (W'.cls m) ≡ X.lev m)
      go (merged j l e) = (l, e)
      go (kept un e) = absurd (un (subst (Marked X W C) (sym (marked_class formed k).itself) k))

  -- A low keeps its name.
  low_itself : {m : ℕ} → Low X W C m → W'.cls m ≡ m
  low_itself l = let k = marked_low l.marked in low_one formed k.0 l k.1

  -- Two of one old class are of one new class.
  new_same : {v : ℕ} → X.ex v ≡ true → W'.cls (W.cls v) ≡ W'.cls v
  new_same {v} ex = go (fused.class v ex) (fused.class (W.cls v) r.name.existential)
    where
      r : ClassRow X W v
      r = (formed.right v).class ex

      go : FusedClass X W C v (W'.cls v) → FusedClass X W C (W.cls v) (W'.cls (W.cls v)) → W'.cls (W.cls v) ≡ W'.cls v
      go (merged j l e) d = let k = marked_low j in low_one formed k.0 l (k.1 ∙ r.block ∙ sym e)
      go (kept un e) (merged j l d) = absurd (un (subst (Marked X W C) r.name.itself j))
      go (kept un e) (kept un' d) = d ∙ r.name.itself ∙ sym e

  -- The new class of an existential is a class name of its block, at most the old one.
  pub new_class : {v : ℕ} → X.ex v ≡ true → ClassRow X W' v
  new_class {v} ex = go (fused.class v ex)
    where
      r : ClassRow X W v
      r = (formed.right v).class ex

      go : FusedClass X W C v (W'.cls v) → ClassRow X W' v
      go (merged j l e) = record {
        most = omega (arith, r.most, l.lowest (W.cls v) j (r.block ∙ sym e));
        name = record { existential = (marked_class formed l.marked).existential; itself = low_itself l };
        block = e;
      }
      go (kept un e) = record {
        most = omega (arith, r.most);
        name = record { existential = rw e r.name.existential; itself = ap W'.cls e ∙ new_same ex };
        block = ap X.lev e ∙ r.block;
      }

  -- A class that stays one was one.
  old_name : {c : ℕ} → ClassName X W' c → ClassName X W c
  old_name {c} n = go (fused.class c n.existential)
    where
      go : FusedClass X W C c (W'.cls c) → ClassName X W c
      go (merged j l e) = marked_class formed (subst (Marked X W C) n.itself l.marked)
      go (kept un e) = record { existential = n.existential; itself = sym e ∙ n.itself }

  -- A new parent is right.
  new_parent : {v : ℕ} → ClassName X W' v → W'.par v ≢ 0 → ParentRow X W' v
  new_parent {v} c n = go (fused.parent v (old_name c) c.itself)
    where
      up_from : W'.par v ≡ W'.cls (W.par v) → ClassRow X W' (W.par v) → X.lev (W.par v) < X.lev v → ParentRow X W' v
      up_from e r l = record { child = c; name = subst (ClassName X W') (sym e) r.name; less = omega (arith, ap X.lev e, r.block) }

      go : FusedParent X W C W' v (W'.par v) → ParentRow X W' v
      go (chained k (none_next z h)) = absurd (n z)
      go (chained k (next_low l less h)) =
          let ex = (marked_class formed l.marked).existential in
          record { child = c; name = record { existential = ex; itself = low_itself l }; less = less }
      go (carried un e) = by_cases (ℕ_discrete (W.par v) 0)
          (λ z. absurd (n (e ∙ ap W'.cls z ∙ (fused.universal 0 (zero_universal lawful)).0)))
          (λ p. let r = (formed.right v).parent p in up_from e (new_class r.name.existential) r.less)

  -- The fused table is well formed.
  pub fused_formed : WellFormed X W'
  fused_formed = record { right = λ v. record { universal = fused.universal v; class = new_class; parent = parent v (X.ex v) refl } }
    where
      parent : (v : ℕ) (b : Bool) → X.ex v ≡ b → W'.par v ≢ 0 → ParentRow X W' v
      parent v false e n = absurd (n (fused.universal v e).1)
      parent v true e n = by_cases (ℕ_discrete (W'.cls v) v) (λ s. new_parent (record { existential = e; itself = s }) n)
          (λ s. absurd (n (fused.unnamed v e s)))

  -- First simulation: each new link lies in the old links and the clause. A variable reaches its new class ...
  new_reach : {i v : ℕ} → From X i v → Reach (Added (Linked X W) C) (From X i) v (W'.cls v)
  new_reach {i} {v} f = go (fused.class v f.existential)
    where
      old : Reach (Added (Linked X W) C) (From X i) v (W.cls v)
      old = before_reach (reach_one (up (to_class f.existential refl)) (from_class formed f))

      go : FusedClass X W C v (W'.cls v) → Reach (Added (Linked X W) C) (From X i) v (W'.cls v)
      go (merged j l e) = reach_trans old (marked_reach formed j l.marked (from_class formed f).deep (omega (arith, f.deep)))
      go (kept un e) = rw e old

  -- ... and a class its new parent.
  new_link : {i a b : ℕ} → Link X W' a b → From X i a → From X i b → Reach (Added (Linked X W) C) (From X i) a b
  new_link (to_class ex e) fa fb = rw e at (new_reach fa)
  new_link {i} {a} {b} (to_parent n e) fa fb = go (fused.parent a (old_name c) c.itself)
    where
      r : ParentRow X W' a
      r = (fused_formed.right a).parent n

      c : ClassName X W' a
      c = r.child

      go : FusedParent X W C W' a (W'.par a) → Reach (Added (Linked X W) C) (From X i) a b
      go (chained k (none_next z h)) = absurd (n z)
      go (chained k (next_low l less h)) = rw e at (marked_reach formed k l.marked fa.deep (rw e fb.deep))
      go (carried un q) = by_cases (ℕ_discrete (W.par a) 0)
          (λ z. absurd (n (q ∙ ap W'.cls z ∙ (fused.universal 0 (zero_universal lawful)).0)))
          (λ p. let o = ((formed.right a).parent p).name in
          let f : From X i (W.par a) = allow o.existential (omega (arith, fb.deep, ap X.lev (sym q ∙ e), (new_class o.existential).block)) in
          rw (sym q ∙ e) at (reach_trans (reach_one (before (up (to_parent p refl))) f) (new_reach f)))

  -- Second simulation: each old link, and the clause, lies in the new links. A variable steps to its new class ...
  to_new : {i v : ℕ} → From X i v → Reach (Linked X W') (From X i) v (W'.cls v)
  to_new f = reach_one (up (to_class f.existential refl)) (from_class fused_formed f)

  -- ... and back ...
  of_new : {i v : ℕ} → From X i v → Reach (Linked X W') (From X i) (W'.cls v) v
  of_new f = reach_sym linked_sym f (to_new f)

  -- ... and the low of a block rises to the low of each lesser block that has marks.
  low_reach : (fuel : ℕ) {i a b : ℕ} → Low X W C a → Low X W C b → i ≤ X.lev b → X.lev b ≤ X.lev a → X.lev a ≤ X.lev b + fuel
      → Reach (Linked X W') (From X i) a b
  low_reach zero {i} {a} {b} l m d h f = rw (low_one formed l m (omega arith)) here
  low_reach (suc fuel) {i} {a} {b} l m d h f = by_cases (ℕ_discrete (X.lev a) (X.lev b)) (λ e. rw (low_one formed l m e) here)
      (λ n. go (omega arith) (λ p lp g less. low_reach fuel lp m d g (omega arith)) (fused.parent a (marked_class formed l.marked) (low_itself l)))
    where
      go : X.lev b < X.lev a → ((p : ℕ) → Low X W C p → X.lev b ≤ X.lev p → X.lev p < X.lev a → Reach (Linked X W') (From X i) p b)
          → FusedParent X W C W' a (W'.par a) → Reach (Linked X W') (From X i) a b
      go below rest (chained k (none_next z h)) = absurd (omega (arith, h b m.marked))
      go below rest (chained k (next_low p less h)) =
          let ex = (marked_class formed p.marked).existential in
          let g : X.lev b ≤ X.lev (W'.par a) = h b m.marked below in
          reach_trans (reach_one (up (to_parent (existential_nonzero lawful (W'.par a) ex) refl)) (allow ex (omega arith))) (rest (W'.par a) p g less)
      go below rest (carried un e) = absurd (un l.marked)

  -- So marked classes reach one another by new links.
  new_marked : {i m n : ℕ} → Marked X W C m → Marked X W C n → i ≤ X.lev m → i ≤ X.lev n → Reach (Linked X W') (From X i) m n
  new_marked {i} {m} {n} k l d e = by_cases (dec_le (X.lev n) (X.lev m)) (λ h. falls k l d e h)
      (λ h. reach_sym linked_sym (from l e) (falls l k e d (omega arith)))
    where
      from : {m : ℕ} → Marked X W C m → i ≤ X.lev m → From X i m
      from k d = allow (marked_class formed k).existential d

      falls : {m n : ℕ} → Marked X W C m → Marked X W C n → i ≤ X.lev m → i ≤ X.lev n → X.lev n ≤ X.lev m → Reach (Linked X W') (From X i) m n
      falls {m} {n} k l d e h =
          let a = marked_low k in
          let b = marked_low l in
          reach_trans (to_new (from k d)) (reach_trans (low_reach (X.lev m) a.0 b.0 (omega (arith, b.1)) (omega (arith, a.1, b.1))
          (omega (arith, a.1))) (of_new (from l e)))

  -- So a variable reaches its old class ...
  old_class : {i v : ℕ} → From X i v → Reach (Linked X W') (From X i) v (W.cls v)
  old_class {i} {v} f = reach_trans (to_new f) (rw (new_same f.existential) at (of_new (from_class formed f)))

  -- ... a class its old parent ...
  old_link : {i a b : ℕ} → Link X W a b → From X i a → From X i b → Reach (Linked X W') (From X i) a b
  old_link (to_class ex e) fa fb = rw e at (old_class fa)
  old_link {i} {a} {b} (to_parent n e) fa fb = rw e at (go (fused.class a fa.existential))
    where
      r : ParentRow X W a
      r = (formed.right a).parent n

      fp : From X i (W.par a)
      fp = rw e fb

      stays : W'.cls a ≡ a → FusedParent X W C W' a (W'.par a) → (Marked X W C a → ⊥) → Reach (Linked X W') (From X i) a (W.par a)
      stays s (chained k h) un = absurd (un k)
      stays s (carried un' q) un =
          let f = from_class fused_formed fp in
          reach_trans (reach_one (up (to_parent (λ z. existential_nonzero lawful (W'.cls (W.par a)) f.existential (sym q ∙ z)) q)) f) (of_new fp)

      go : FusedClass X W C a (W'.cls a) → Reach (Linked X W') (From X i) a (W.par a)
      go (merged k l d) = let k' = subst (Marked X W C) r.child.itself k in new_marked k' (marked_parent formed k' n) fa.deep fp.deep
      go (kept un d) = let s = d ∙ r.child.itself in stays s (fused.parent a r.child s) (λ k. un (subst (Marked X W C) (sym r.child.itself) k))

  -- ... and one of the clause another.
  old_clause : {i a b : ℕ} → Memᴰ a C → Memᴰ b C → From X i a → From X i b → Reach (Linked X W') (From X i) a b
  old_clause {i} {a} {b} ma mb fa fb =
      reach_trans (old_class fa) (reach_trans (new_marked (mark ma fa) (mark mb fb) (from_class formed fa).deep (from_class formed fb).deep)
      (reach_sym linked_sym fb (old_class fb)))
    where
      mark : {v : ℕ} → Memᴰ v C → From X i v → Marked X W C (W.cls v)
      mark {v} m f = record { by = v; listed = m; existential = f.existential; rises = 0; above = start }

  -- Reach along the old links and the clause is reach along the new links.
  pub fused_reach : {i v y : ℕ} → From X i v → Reach (Added (Linked X W) C) (From X i) v y ↔ Reach (Linked X W') (From X i) v y
  fused_reach {i} f = (simulate there f, simulate back f)
    where
      there : (a b : ℕ) → From X i a → From X i b → Added (Linked X W) C a b → Reach (Linked X W') (From X i) a b
      there a b fa fb (before (up l)) = old_link l fa fb
      there a b fa fb (before (down l)) = reach_sym linked_sym fb (old_link l fb fa)
      there a b fa fb (added ma mb) = old_clause ma mb fa fb

      back : (a b : ℕ) → From X i a → From X i b → Linked X W' a b → Reach (Added (Linked X W) C) (From X i) a b
      back a b fa fb (up l) = new_link l fa fb
      back a b fa fb (down l) = reach_sym (added_sym linked_sym) fb (new_link l fb fa)

  -- Theorem (b): if the table represents some joins, the fused table represents them with the clause added.
  pub fused_represents : {J : ℕ → ℕ → Type 0} → Represents X J W → Represents X (Added J C) W'
  fused_represents {J} rep = record {
    formed = fused_formed;
    tops = λ i v y fv fy.
        Iff.trans (simulate (there i) fv, simulate (back i) fv) (Iff.trans (fused_reach fv) (linked_tops fused_formed fv fy));
  }
    where
      there : (i a b : ℕ) → From X i a → From X i b → Added J C a b → Reach (Added (Linked X W) C) (From X i) a b
      there i a b fa fb (before j) = before_reach ((linked_tops formed fa fb).1 ((rep.tops i a b fa fb).0 (reach_one j fb)))
      there i a b fa fb (added ma mb) = reach_one (added ma mb) fb

      back : (i a b : ℕ) → From X i a → From X i b → Added (Linked X W) C a b → Reach (Added J C) (From X i) a b
      back i a b fa fb (before l) = before_reach ((rep.tops i a b fa fb).1 ((linked_tops formed fa fb).0 (reach_one l fb)))
      back i a b fa fb (added ma mb) = reach_one (added ma mb) fb
