-- The laws of the climb: it ends at the entry point, its rises are the classes passed, and no more than blocks.
use Prim.Native.Nat.{ℕ, zero, suc, ◌+◌, ◌≤◌, ◌<◌}
use mathlib.Core.Path.{◌≡◌, refl, sym, ◌∙◌, ap, subst}
use mathlib.Core.Bool.{true}
use mathlib.Core.Logic.{◌↔◌, ◌≢◌, by_cases}
use native.Mathlib.Decide.{ℕ_discrete, dec_lt}
use native.Mathlib.Nat.{add-zero}
use native.Mathlib.Omega.{arith}
use borrow.Author.Tests.{eq-eqb, ne_eqb, lt-ltb, le-ltb}
use Rattle.forest_theory.specs.Reach.{Variables, From}
use Rattle.forest_theory.specs.Tables.{Table, ClassName, WellFormed, Above, start, rise, EntryPoint}
use Rattle.forest_theory.specs.InnerClimb.{Climbed, climb_by, climb, top}

-- p is where a climb from c at level i ends, after k rises: it stands in block i or deeper, and its parent, if any, does not.
pub record Ends (X : Variables) (W : Table) (i c p k : ℕ) : Type 0 where
  pub above : Above W p c k
  pub deep : i ≤ X.lev p
  pub stop : W.par p ≢ 0 → X.lev (W.par p) < i

-- One more rise at the upper end.
pub above_next : {W : Table} {p c k : ℕ} → Above W p c k → W.par p ≢ 0 → Above W (W.par p) c (suc k)
above_next start h = rise h start
above_next (rise g a) h = rise g (above_next a h)

-- What holds of c, and of a parent where it holds of the child, holds of all above c.
pub above_all : {W : Table} (M : ℕ → Type 0) → ((c : ℕ) → M c → W.par c ≢ 0 → M (W.par c)) → {p c k : ℕ} → M c → Above W p c k → M p
above_all M up m start = m
above_all M up m (rise {c = c} h a) = above_all M up (up c m h) a

module _ {X : Variables} {W : Table} (formed : WellFormed X W) where
  -- Each rise passes to a lesser block, so the rises are at most the block number.
  pub above_falls : {p c k : ℕ} → Above W p c k → k + X.lev p ≤ X.lev c
  above_falls start = omega arith
  above_falls {p} (rise {c = c} {k = k} h a) = omega (arith, above_falls a, ((formed.right c).parent h).less)

  -- What stands above a class name is a class name.
  pub above_class : {p c k : ℕ} → ClassName X W c → Above W p c k → ClassName X W p
  above_class n a = above_all (ClassName X W) (λ c m h. ((formed.right c).parent h).name) n a

  -- What stands above c in a lesser block is at least one rise away.
  pub above_strict : {p c k : ℕ} → Above W p c k → X.lev p < X.lev c → (n : ℕ) × Above W p c (suc n)
  above_strict start l = absurd (omega arith)
  above_strict (rise h a) l = (_, rise h a)

  -- The climb stops where there is no parent to rise to.
  stop_by : (i fuel c r : ℕ) → (W.par c ≢ 0 → X.lev (W.par c) < i) → climb_by X W i fuel c r ≡ record { top = c; rises = r }
  unfolding climb_by
  stop_by i zero c r h = refl
  stop_by i (suc fuel) c r h = by_cases (ℕ_discrete (W.par c) 0) (λ e. rw (eq-eqb (W.par c) 0 e))
      (λ n. rw (ne_eqb (W.par c) 0 n, lt-ltb (X.lev (W.par c)) i (h n)))

  -- And rises where there is one in block i or deeper.
  rise_by : (i fuel c r : ℕ) → W.par c ≢ 0 → i ≤ X.lev (W.par c) → climb_by X W i (suc fuel) c r ≡ climb_by X W i fuel (W.par c) (r + 1)
  unfolding climb_by
  rise_by i fuel c r n h = rw (ne_eqb (W.par c) 0 n, le-ltb (X.lev (W.par c)) i h)

  -- With fuel enough, the climb gives its end and adds its rises.
  ends_by : {i p c k : ℕ} (fuel r : ℕ) → X.lev c ≤ fuel → Above W p c k → i ≤ X.lev p → (W.par p ≢ 0 → X.lev (W.par p) < i)
      → climb_by X W i fuel c r ≡ record { top = p; rises = r + k }
  ends_by {i} {p = p} fuel r f start d s = rw add-zero (stop_by i fuel p r s)
  ends_by {i} {p = p} zero r f (rise {c = c} h a) d s = absurd (omega (arith, ((formed.right c).parent h).less))
  ends_by {i} {p = p} (suc fuel) r f (rise {c = c} {k = k} h a) d s =
      let up = ends_by fuel (r + 1) (omega (arith, ((formed.right c).parent h).less)) a d s in
      let sum : (r + 1) + k ≡ r + suc k = omega arith in
      rise_by i fuel c r h (omega (arith, above_falls a)) ∙ up ∙ ap (λ (n : ℕ). record { top = p; rises = n }) sum

  -- A climb that starts in block i or deeper has an end.
  ends_within : (i fuel c : ℕ) → X.lev c ≤ fuel → i ≤ X.lev c → (p : ℕ) × (k : ℕ) × Ends X W i c p k
  ends_within i zero c f d = (c, 0, record { above = start; deep = d; stop = λ n. absurd (omega (arith, ((formed.right c).parent n).less)) })
  ends_within i (suc fuel) c f d =
      by_cases (dec_lt (X.lev (W.par c)) i) (λ l. stays (λ n. l))
      (λ l. by_cases (ℕ_discrete (W.par c) 0) (λ e. stays (λ n. absurd (n e)))
      (λ n. rises n (ends_within i fuel (W.par c) (omega (arith, ((formed.right c).parent n).less)) (omega arith))))
    where
      stays : (W.par c ≢ 0 → X.lev (W.par c) < i) → (p : ℕ) × (k : ℕ) × Ends X W i c p k
      stays s = (c, 0, record { above = start; deep = d; stop = s })

      rises : W.par c ≢ 0 → (p : ℕ) × (k : ℕ) × Ends X W i (W.par c) p k → (p : ℕ) × (k : ℕ) × Ends X W i c p k
      rises n e = (e.0, suc e.1, record { above = rise n e.2.above; deep = e.2.deep; stop = e.2.stop })

  -- The fuel is enough.
  pub ends_exist : {i : ℕ} (c : ℕ) → i ≤ X.lev c → (p : ℕ) × (k : ℕ) × Ends X W i c p k
  ends_exist {i} c d = ends_within i (X.lev c) c (omega arith) d

  -- The climb gives its end, and the number of rises is the number of classes passed.
  pub climb_ends : {i c p k : ℕ} → Ends X W i c p k → (r : ℕ) → climb X W i c r ≡ record { top = p; rises = r + k }
  unfolding climb
  climb_ends {c = c} e r = ends_by (X.lev c) r (omega arith) e.above e.deep e.stop

  -- A climb has one end.
  pub ends_one : {i c p k q n : ℕ} → Ends X W i c p k → Ends X W i c q n → (p ≡ q) × (k ≡ n)
  ends_one {k = k} {n = n} a b =
      let same : ◌≡◌ {A = Climbed} (record { top = _; rises = 0 + k }) (record { top = _; rises = 0 + n }) = sym (climb_ends a 0) ∙ climb_ends b 0 in
      (ap (λ (c : Climbed). c.top) same, (let sum : 0 + k ≡ 0 + n = ap (λ (c : Climbed). c.rises) same in omega arith))

  -- Whatever stands above c in block i or deeper climbs to the end of c's climb.
  pub ends_pass : {i q c p k n : ℕ} → Above W q c n → i ≤ X.lev q → Above W p c k → (W.par p ≢ 0 → X.lev (W.par p) < i) → (m : ℕ) × Above W p q m
  ends_pass start d a s = (_, a)
  ends_pass (rise g b) d start s = absurd (omega (arith, above_falls b, s g))
  ends_pass (rise g b) d (rise h a) s = ends_pass b d a s

  -- The entry point of x for y is where the climb from y's class ends at the first level deeper than x.
  pub entry_ends : {x y e k : ℕ} → EntryPoint X W x y e k ↔ Ends X W (suc (X.lev x)) (W.cls y) e k
  entry_ends {x} {y} {e} {k} = (
    λ h. record { above = h.above; deep = h.deeper; stop = stop h },
    λ h. record { above = h.above; deeper = h.deep; least = least h },
  )
    where
      stop : EntryPoint X W x y e k → W.par e ≢ 0 → X.lev (W.par e) < suc (X.lev x)
      stop h n = by_cases (dec_lt (X.lev (W.par e)) (suc (X.lev x))) (λ l. l)
          (λ l. absurd (omega (arith, h.least (W.par e) (suc k) (above_next h.above n) (omega arith), ((formed.right e).parent n).less)))

      least : Ends X W (suc (X.lev x)) (W.cls y) e k → (p n : ℕ) → Above W p (W.cls y) n → X.lev x < X.lev p → X.lev e ≤ X.lev p
      least h p n a d = omega (arith, above_falls (ends_pass a d h.above h.stop).1)

  -- Theorem (f): the climb from y's class gives the entry point of x for y, and as its rises the number of classes passed (rule 2.7).
  pub entry_climb : {x y e k : ℕ} → EntryPoint X W x y e k → climb X W (suc (X.lev x)) (W.cls y) 0 ≡ record { top = e; rises = k }
  entry_climb {e = e} {k = k} h =
      let sum : 0 + k ≡ k = omega arith in
      climb_ends (entry_ends.0 h) 0 ∙ ap (λ (m : ℕ). record { top = e; rises = m }) sum

  -- So there is an entry point for every y deeper than x.
  pub climb_entry : {x : ℕ} (y : ℕ) → X.ex y ≡ true → X.lev x < X.lev y
      → EntryPoint X W x y (climb X W (suc (X.lev x)) (W.cls y) 0).top (climb X W (suc (X.lev x)) (W.cls y) 0).rises
  climb_entry {x} y ex d =
      let e = ends_exist {i = suc (X.lev x)} (W.cls y) (omega (arith, ((formed.right y).class ex).block)) in
      let is = (entry_ends {x = x} {y = y}).1 e.2 in
      subst (λ (c : Climbed). EntryPoint X W x y c.top c.rises) (sym (entry_climb is)) is

  -- There is one entry point of x for y, with one number of rises.
  pub entry_one : {x y e k f n : ℕ} → EntryPoint X W x y e k → EntryPoint X W x y f n → (e ≡ f) × (k ≡ n)
  entry_one a b = ends_one (entry_ends.0 a) (entry_ends.0 b)

  -- Theorem (f): the rises are never more than y's block number.
  pub entry_rises : {x y e k : ℕ} → X.ex y ≡ true → EntryPoint X W x y e k → k ≤ X.lev y
  entry_rises {y = y} ex h = omega (arith, above_falls h.above, ((formed.right y).class ex).block)

  -- The top of v, by its end.
  pub top_ends : {i p k : ℕ} (v : ℕ) → Ends X W i (W.cls v) p k → top X W i v ≡ p
  unfolding top
  top_ends v e = ap (λ (c : Climbed). c.top) (climb_ends e 0)

  -- The top of an existential of block i or deeper is an end.
  pub top_exists : {i v : ℕ} → From X i v → (k : ℕ) × Ends X W i (W.cls v) (top X W i v) k
  top_exists {i} {v} f =
      let e = ends_exist {i = i} (W.cls v) (omega (arith, f.deep, ((formed.right v).class f.existential).block)) in
      (e.1, subst (λ (p : ℕ). Ends X W i (W.cls v) p e.1) (sym (top_ends v e.2)) e.2)

  -- The top of a class name, by the climb from itself.
  pub top_class : {i c p k : ℕ} → ClassName X W c → Ends X W i c p k → top X W i c ≡ p
  top_class {i} {c} {p} {k} n e = top_ends c (subst (λ (d : ℕ). Ends X W i d p k) (sym n.itself) e)
