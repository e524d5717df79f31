-- The computed rows are the table with the clause fused in.
use Prim.Native.Nat.{ℕ, zero, suc, ◌+◌, ◌-◌, ◌≤◌, ◌<◌}
use mathlib.Core.Path.{◌≡◌, refl, sym, ◌∙◌, ap, subst}
use mathlib.Core.Bool.{Bool, true, false, cond, ◌||◌, ◌&&◌, true≢false, false≢true}
use mathlib.Core.List.Memᴰ
use mathlib.Core.List.{List, [], ◌∷◌, Memᴰ}
use mathlib.Core.Logic.{⊎_elim, ◌≢◌, by_cases}
use native.Mathlib.Omega.{arith}
use native.Mathlib.Decide.{dec_le, dec_lt}
use lib.ListN.{get_or}
use lib.Dec.{eqb, ltb}
use borrow.Author.Tests.{ltb-true, ltb-false, eqb-true, eqb-false, eq-eqb, ne_eqb, lt-ltb}
use Rattle.forest_theory.specs.Reach.{Variables}
use Rattle.forest_theory.specs.InnerVariables.{Lawful}
use Rattle.forest_theory.specs.Tables.{Table, row, lent, WellFormed, Above, start, rise}
use Rattle.forest_theory.specs.InnerFused.{Marked, Low, Next, none_next, next_low, FusedClass, merged, kept, FusedParent, chained, carried, Fused}
use Rattle.forest_theory.specs.InnerSearch.{has}
use Rattle.forest_theory.specs.InnerFusing.{fill, classes_up, marks, goes_before, under, fuse_class, fuse_parent, Rows, table_of, rows_by, fuse_marks, fuse}
use Rattle.forest_theory.proofs.Choice.{choice, neither, both}
use Rattle.forest_theory.proofs.Search.{cons_all, has_member_lem, member_has}
use Rattle.forest_theory.proofs.Climb.{above_falls}
use Rattle.forest_theory.proofs.Rows.{row_at, row_out}
use Rattle.forest_theory.proofs.Fuse.{marked_class}

-- The k-th of filled rows.
fill_row : (n s k : ℕ) (f : ℕ → ℕ) → k < n → get_or (fill n s f) k 0 ≡ f (s + k)
unfolding fill
fill_row zero s k f h = absurd (omega arith)
fill_row (suc n) s zero f h = let z : s ≡ s + 0 = omega arith in ap f z
fill_row (suc n) s (suc k) f h = let z : suc s + k ≡ s + suc k = omega arith in fill_row n (suc s) k f (omega arith) ∙ ap f z

-- So row v reads f v.
row_fill : (n v : ℕ) (f : ℕ → ℕ) → 1 ≤ v → v ≤ n → row n (fill n 1 f) v ≡ f v
row_fill n v f l h = let e : 1 + (v - 1) ≡ v = omega arith in row_at n v (fill n 1 f) l h ∙ fill_row n 1 (v - 1) f (omega arith) ∙ ap f e

-- Among the classes up from c are all that stand above c.
pub up_member : {W : Table} {m c k : ℕ} (fuel : ℕ) → Above W m c k → k ≤ fuel → Memᴰ m (classes_up W fuel c)
unfolding classes_up
up_member zero start h = Memᴰ.head refl
up_member (suc fuel) start h = Memᴰ.head refl
up_member zero (rise n a) h = absurd (omega arith)
up_member {W} (suc fuel) (rise {c = c} n a) h = Memᴰ.tail {xs = cond (eqb (W.par c) 0) [] (classes_up W fuel (W.par c))}
    (rw (ne_eqb (W.par c) 0 n) (up_member fuel a (omega arith)))

-- A class stands above itself.
above_self : {W : Table} {m c : ℕ} → m ≡ c → (k : ℕ) × Above W m c k
above_self {W} {m} e = (0, subst (λ (d : ℕ). Above W m d 0) e start)

-- And no others.
pub member_up : {W : Table} {m : ℕ} (fuel c : ℕ) → Memᴰ m (classes_up W fuel c) → (k : ℕ) × Above W m c k
unfolding classes_up
member_up zero c h = above_self (Memᴰ.eq_of_singleton h)
member_up {W} {m} (suc fuel) c h = ⊎_elim above_self
    (choice (λ (l : List ℕ). Memᴰ m l → (k : ℕ) × Above W m c k) (eqb (W.par c) 0)
    (λ e n. absurd (Memᴰ.not-nil n))
    (λ e n. let a = member_up fuel (W.par c) n in (suc a.0, rise (eqb-false (W.par c) 0 e) a.1)))
    (Memᴰ.cases_cons h)

module _ (X : Variables) (W : Table) where
  -- A mark is a marked class.
  member_marked : {m : ℕ} (C : List ℕ) → Memᴰ m (marks X W C) → Marked X W C m
  unfolding marks
  member_marked [] h = absurd (Memᴰ.not-nil h)
  member_marked {m} (e ∷ C) h = ⊎_elim
      (choice (λ (l : List ℕ). Memᴰ m l → Marked X W (e ∷ C) m) (X.ex e)
      (λ t n. let a = member_up (X.lev e) (W.cls e) n in record { by = e; listed = Memᴰ.head refl; existential = t; rises = a.0; above = a.1 })
      (λ t n. absurd (Memᴰ.not-nil n)))
      (λ n. let k = member_marked C n in
      record { by = k.by; listed = Memᴰ.tail k.listed; existential = k.existential; rises = k.rises; above = k.above })
      (Memᴰ.append_cases (cond (X.ex e) (classes_up W (X.lev e) (W.cls e)) []) h)

  -- What stands above the class of an existential of the clause is among the marks ...
  marks_by : {m e : ℕ} {C : List ℕ} → Memᴰ e C → X.ex e ≡ true → Memᴰ m (classes_up W (X.lev e) (W.cls e)) → Memᴰ m (marks X W C)
  unfolding marks
  marks_by {m} (Memᴰ.head {x = x} {xs = C} q) t n = Memᴰ.append_left {s = cond (X.ex x) (classes_up W (X.lev x) (W.cls x)) []} (marks X W C)
      (subst (λ (y : ℕ). Memᴰ m (cond (X.ex y) (classes_up W (X.lev y) (W.cls y)) [])) q (rw t n))
  marks_by {m} (Memᴰ.tail {x = x} l) t n = Memᴰ.append_right (cond (X.ex x) (classes_up W (X.lev x) (W.cls x)) []) (marks_by l t n)

  -- ... so a marked class is.
  marked_member : {m : ℕ} {C : List ℕ} → WellFormed X W → Marked X W C m → Memᴰ m (marks X W C)
  marked_member formed k = marks_by k.listed k.existential
      (up_member (X.lev k.by) k.above (omega (arith, above_falls formed k.above, ((formed.right k.by).class k.existential).block)))

-- The best of a list of marks: of those in a block less than j, one of the deepest block, and of those the lowest.
data Best (X : Variables) (j : ℕ) (ms : List ℕ) (p : ℕ) : Type 0 where
  nothing : p ≡ 0 → ((m : ℕ) → Memᴰ m ms → j ≤ X.lev m) → Best X j ms p
  best : Memᴰ p ms → X.lev p < j → ((m : ℕ) → Memᴰ m ms → X.lev m < j → X.lev m ≤ X.lev p)
      → ((m : ℕ) → Memᴰ m ms → X.lev m ≡ X.lev p → p ≤ m) → Best X j ms p

-- What goes before is as deep or deeper, and if as deep then no higher.
before_true : (X : Variables) (m b : ℕ) → goes_before X m b ≡ true → b ≢ 0 → (X.lev b ≤ X.lev m) × (X.lev b ≡ X.lev m → m ≤ b)
unfolding goes_before
before_true X m b t n = go (eqb b 0) (ltb (X.lev b) (X.lev m)) (eqb (X.lev b) (X.lev m)) (ltb m b) refl refl refl refl t
  where
    go : (p q r s : Bool) → eqb b 0 ≡ p → ltb (X.lev b) (X.lev m) ≡ q → eqb (X.lev b) (X.lev m) ≡ r → ltb m b ≡ s
        → (p || q || (r && s)) ≡ true → (X.lev b ≤ X.lev m) × (X.lev b ≡ X.lev m → m ≤ b)
    go true q r s ep eq er es t = absurd (n (eqb-true b 0 ep))
    go false true r s ep eq er es t = let less = ltb-true (X.lev b) (X.lev m) eq in (omega arith, λ e. absurd (omega arith))
    go false false true true ep eq er es t = let less = ltb-true m b es in let same = eqb-true (X.lev b) (X.lev m) er in (omega arith, λ e. omega arith)
    go false false true false ep eq er es t = absurd (false≢true t)
    go false false false s ep eq er es t = absurd (false≢true t)

-- Where m does not go before b, there is a b, as deep as m or deeper, and if as deep then no higher.
before_false : (X : Variables) (m b : ℕ) → goes_before X m b ≡ false → (b ≢ 0) × (X.lev m ≤ X.lev b) × (X.lev b ≡ X.lev m → b ≤ m)
unfolding goes_before
before_false X m b t =
    let one = neither (eqb b 0 || ltb (X.lev b) (X.lev m)) (eqb (X.lev b) (X.lev m) && ltb m b) t in
    let two = neither (eqb b 0) (ltb (X.lev b) (X.lev m)) one.0 in (
      eqb-false b 0 two.0,
      ltb-false (X.lev b) (X.lev m) two.1,
      λ e. ltb-false m b (subst (λ (p : Bool). (p && ltb m b) ≡ false) (eq-eqb (X.lev b) (X.lev m) e) one.1),
    )

-- The computed choice is the best.
under_best : (X : Variables) (j : ℕ) (ms : List ℕ) → ((m : ℕ) → Memᴰ m ms → m ≢ 0) → Best X j ms (under X j ms)
unfolding under
under_best X j [] nz = nothing refl (λ m h. absurd (Memᴰ.not-nil h))
under_best X j (m ∷ ms) nz = go (under X j ms) (under_best X j ms (λ n h. nz n (Memᴰ.tail h)))
  where
    take : (b : ℕ) → Best X j ms b → X.lev m < j → goes_before X m b ≡ true → Best X j (m ∷ ms) m
    take b (nothing z h) l t = best (Memᴰ.head refl) l
        (cons_all (λ n. X.lev n < j → X.lev n ≤ X.lev m) (λ g. omega arith) (λ n i g. absurd (omega (arith, h n i))))
        (cons_all (λ n. X.lev n ≡ X.lev m → m ≤ n) (λ g. omega arith) (λ n i g. absurd (omega (arith, h n i))))
    take b (best i l' d w) l t =
        let f = before_true X m b t (nz b (Memᴰ.tail i)) in
        best (Memᴰ.head refl) l
        (cons_all (λ n. X.lev n < j → X.lev n ≤ X.lev m) (λ g. omega arith) (λ n i g. omega (arith, d n i g, f.0)))
        (cons_all (λ n. X.lev n ≡ X.lev m → m ≤ n) (λ g. omega arith)
        (λ n i g. let same : X.lev b ≡ X.lev m = omega (arith, d n i (omega arith), f.0) in omega (arith, w n i (g ∙ sym same), f.1 same)))

    leave : (b : ℕ) → Best X j ms b → (X.lev m < j → goes_before X m b ≡ false) → Best X j (m ∷ ms) b
    leave b (nothing z h) t = nothing z (cons_all (λ n. j ≤ X.lev n)
        (by_cases (dec_lt (X.lev m) j) (λ l. absurd ((before_false X m b (t l)).0 z)) (λ l. omega arith)) h)
    leave b (best i l d w) t = best (Memᴰ.tail i) l
        (cons_all (λ n. X.lev n < j → X.lev n ≤ X.lev b) (λ g. (before_false X m b (t g)).1) d)
        (cons_all (λ n. X.lev n ≡ X.lev b → b ≤ n) (λ g. (before_false X m b (t (omega arith))).2 (sym g)) w)

    go : (b : ℕ) → Best X j ms b → Best X j (m ∷ ms) (cond (ltb (X.lev m) j && goes_before X m b) m b)
    go b h = choice (Best X j (m ∷ ms)) (ltb (X.lev m) j && goes_before X m b)
        (λ t. let f = both (ltb (X.lev m) j) (goes_before X m b) t in take b h (ltb-true (X.lev m) j f.0) f.1)
        (λ t. leave b h (λ l. subst (λ (p : Bool). (p && goes_before X m b) ≡ false) (lt-ltb (X.lev m) j l) t))

-- Rows filled by a function that is 0 at every universal read as the function.
pub row_all : {X : Variables} → Lawful X → (f : ℕ → ℕ) → ((v : ℕ) → X.ex v ≡ false → f v ≡ 0) → (v : ℕ) → row X.count (fill X.count 1 f) v ≡ f v
row_all {X} lawful f z v = by_cases (dec_le 1 v)
    (λ l. by_cases (dec_le v X.count) (λ h. row_fill X.count v f l h) (λ h. out (λ i. omega arith)))
    (λ l. out (λ i. absurd (l i)))
  where
    outer : (b : Bool) → X.ex v ≡ b → (1 ≤ v → X.count < v) → f v ≡ 0
    outer true e h = absurd (let w = lawful.within v e in omega (arith, h w.0, w.1))
    outer false e h = z v e

    out : (1 ≤ v → X.count < v) → row X.count (fill X.count 1 f) v ≡ f v
    out h = row_out X.count v (fill X.count 1 f) h ∙ sym (outer (X.ex v) refl h)

module _ {X : Variables} {W : Table} (lawful : Lawful X) (formed : WellFormed X W) (C : List ℕ) where
  -- The marks of the clause.
  abbrev ms : List ℕ
  ms = marks X W C

  -- No mark is 0.
  marks_nonzero : (m : ℕ) → Memᴰ m ms → m ≢ 0
  marks_nonzero m h e = omega (arith, (lawful.within m (marked_class formed (member_marked X W C h)).existential).0)

  -- The lowest mark of a block is its low.
  best_low : {p : ℕ} → Memᴰ p ms → ((m : ℕ) → Memᴰ m ms → X.lev m ≡ X.lev p → p ≤ m) → Low X W C p
  best_low i w = record { marked = member_marked X W C i; lowest = λ n k e. w n (marked_member X W formed k) e }

  -- The best of the marks in lesser blocks is the next low.
  best_next : {j p : ℕ} → Best X j ms p → Next X W C j p
  best_next (nothing z h) = none_next z (λ m k. h m (marked_member X W formed k))
  best_next (best i l d w) = next_low (best_low i w) l (λ m k g. d m (marked_member X W formed k) g)

  -- A universal gets class 0 ...
  fuse_class_zero : (v : ℕ) → X.ex v ≡ false → fuse_class X W ms v ≡ 0
  unfolding fuse_class
  fuse_class_zero v e = rw e

  -- ... and parent 0.
  fuse_parent_zero : (v : ℕ) → X.ex v ≡ false → fuse_parent X W ms v ≡ 0
  unfolding fuse_parent
  fuse_parent_zero v e = rw e

  -- The computed class row is the fused one.
  class_fused : (v : ℕ) → X.ex v ≡ true → FusedClass X W C v (fuse_class X W ms v)
  unfolding fuse_class
  class_fused v ex = rw ex (choice (FusedClass X W C v) (has (W.cls v) ms)
      (λ t. joined (member_marked X W C (has_member_lem ms t)) (under_best X (suc (X.lev v)) ms marks_nonzero))
      (λ f. kept (λ k. true≢false (sym (member_has (marked_member X W formed k)) ∙ f)) refl))
    where
      joined : {p : ℕ} → Marked X W C (W.cls v) → Best X (suc (X.lev v)) ms p → FusedClass X W C v p
      joined k (nothing z h) = absurd (omega (arith, h (W.cls v) (marked_member X W formed k), ((formed.right v).class ex).block))
      joined k (best i l d w) =
          let b = ((formed.right v).class ex).block in
          merged k (best_low i w) (let g = d (W.cls v) (marked_member X W formed k) (omega arith) in omega arith)

  -- The computed parent row of a class that stays one is the fused one.
  parent_fused : {W' : Table} → ((v : ℕ) → W'.cls v ≡ fuse_class X W ms v) → (c : ℕ) → X.ex c ≡ true → fuse_class X W ms c ≡ c
      → FusedParent X W C W' c (fuse_parent X W ms c)
  unfolding fuse_parent
  parent_fused {W'} new c ex e = rw (ex, eq-eqb (fuse_class X W ms c) c e) (choice (FusedParent X W C W' c) (has c ms)
      (λ t. chained (member_marked X W C (has_member_lem ms t)) (best_next (under_best X (X.lev c) ms marks_nonzero)))
      (λ f. carried (λ k. true≢false (sym (member_has (marked_member X W formed k)) ∙ f)) (sym (new (W.par c)))))

  -- What names no class gets parent 0.
  unnamed_fused : (v : ℕ) → X.ex v ≡ true → fuse_class X W ms v ≢ v → fuse_parent X W ms v ≡ 0
  unfolding fuse_parent
  unnamed_fused v ex n = rw (ex, ne_eqb (fuse_class X W ms v) v n)

  -- The computed rows are W with the clause put in.
  pub marks_fused : Fused X W C (table_of X (fuse_marks X W ms))
  unfolding table_of lent fuse_marks rows_by
  marks_fused = record {
    universal = λ v e. (cls v ∙ fuse_class_zero v e, par v ∙ fuse_parent_zero v e);
    class = λ v ex. subst (FusedClass X W C v) (sym (cls v)) (class_fused v ex);
    parent = λ c n e. subst (FusedParent X W C (table_of X (fuse_marks X W ms)) c) (sym (par c)) (parent_fused cls c n.existential (sym (cls c) ∙ e));
    unnamed = λ v ex n. par v ∙ unnamed_fused v ex (λ e. n (cls v ∙ e));
  }
    where
      cls : (v : ℕ) → row X.count (fill X.count 1 (fuse_class X W ms)) v ≡ fuse_class X W ms v
      cls = row_all lawful (fuse_class X W ms) fuse_class_zero

      par : (v : ℕ) → row X.count (fill X.count 1 (fuse_parent X W ms)) v ≡ fuse_parent X W ms v
      par = row_all lawful (fuse_parent X W ms) fuse_parent_zero

-- So the rows that `fuse` computes are the table with the clause fused in.
pub fuse_fused : {X : Variables} (lawful : Lawful X) (R : Rows) → WellFormed X (table_of X R) → (C : List ℕ)
    → Fused X (table_of X R) C (table_of X (fuse X R C))
unfolding fuse
fuse_fused lawful R formed C = marks_fused lawful formed C
