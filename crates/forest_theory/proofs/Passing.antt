-- Counts passed up: the first pass places each variable in its class, then each class passes its count to its parent, and in the end the counts are right.
use Prim.Native.Nat.{ℕ, ◌+◌, ◌≤◌}
use mathlib.Core.Path.{◌≡◌, refl, sym, ap, ◌∙◌, subst}
use mathlib.Core.Bool.{true, false, false≢true}
use mathlib.Core.Logic.{◌⊎◌, inl, inr, ⊎_elim, ◌↔◌, ◌≢◌, by_cases}
use native.Mathlib.Decide.{ℕ_discrete}
use native.Mathlib.Omega.{arith}
use Rattle.forest_theory.specs.Reach.{Variables}
use Rattle.forest_theory.specs.InnerVariables.{Lawful}
use Rattle.forest_theory.specs.Tables.{Table, WellFormed, Above, start, rise}
use Rattle.forest_theory.specs.Counts.{Numbered, Counted}
use Rattle.forest_theory.specs.InnerPassing.{RowsCount, Placed, Passes, there, onward, WithinBy}
use Rattle.forest_theory.proofs.Climb.{above_falls}
use Rattle.forest_theory.proofs.Numbered.{numbered_most, numbered_none, numbered_same, numbered_more, numbered_plus}
use Rattle.forest_theory.proofs.Counts.{counted_rows}

-- Rows that count the same.
rows_same : {P Q : ℕ → ℕ → Type 0} {counts : ℕ → ℕ} → ((c v : ℕ) → P c v ↔ Q c v) → RowsCount P counts → RowsCount Q counts
rows_same same r = record { row = λ c. numbered_same (same c) (r.row c) }

-- Rows of which one is stored anew.
rows_stored : {P Q : ℕ → ℕ → Type 0} {counts counts' : ℕ → ℕ} (p : ℕ) → ((c : ℕ) → c ≢ p → counts' c ≡ counts c)
    → Numbered (Q p) (counts' p) → ((c : ℕ) → c ≢ p → (v : ℕ) → P c v ↔ Q c v) → RowsCount P counts → RowsCount Q counts'
rows_stored {Q = Q} {counts' = counts'} p kept new same r = record {
  row = λ c. by_cases (ℕ_discrete c p)
      (λ e. subst (λ (d : ℕ). Numbered (Q d) (counts' d)) (sym e) new)
      (λ other. subst (Numbered (Q c)) (sym (kept c other)) (numbered_same (same c other) (r.row c)));
}

-- Rows that count existentials hold at most n each.
pub rows_most : {X : Variables} {P : ℕ → ℕ → Type 0} {counts : ℕ → ℕ} → Lawful X → ((c v : ℕ) → P c v → X.ex v ≡ true) → RowsCount P counts
    → (c : ℕ) → counts c ≤ X.count
rows_most lawful ex r c = numbered_most (λ v p. lawful.within v (ex c v p)) (r.row c)

-- The way goes on from whatever else is done too.
passes_along : {W : Table} {D D' : ℕ → Type 0} {p c : ℕ} → ((c : ℕ) → W.par c ≢ 0 → D c → D' c) → Passes W D p c → Passes W D' p c
passes_along more there = there
passes_along more (onward {c = c} d some a) = onward (more c some d) some (passes_along more a)

-- What is passed stands above ...
passes_above : {W : Table} {D : ℕ → Type 0} {p c : ℕ} → Passes W D p c → (k : ℕ) × Above W p c k
passes_above there = (0, start)
passes_above (onward d some a) = let (k, up) = passes_above a in (_, rise some up)

-- ... and where all classes that have a parent are done, whatever stands above is passed.
above_passes : {W : Table} {D : ℕ → Type 0} {p c k : ℕ} → ((c : ℕ) → W.par c ≢ 0 → D c) → Above W p c k → Passes W D p c
above_passes all start = there
above_passes all (rise {c = c} some a) = onward (all c some) some (above_passes all a)

-- The class w becomes done, and nothing else.
pub record Finishes (D : ℕ → Type 0) (w : ℕ) (D' : ℕ → Type 0) : Type 0 where
  pub kept : (c : ℕ) → D c → D' c
  pub new : D' w
  pub only : (c : ℕ) → D' c → D c ⊎ (c ≡ w)

module _ {X : Variables} {W : Table} where
  -- Before the first variable all rows are 0.
  pub placed_none : {counts : ℕ → ℕ} → Lawful X → ((c : ℕ) → counts c ≡ 0) → RowsCount (Placed X W 0) counts
  placed_none lawful zeros = record { row = λ c. subst (Numbered (Placed X W 0 c)) (sym (zeros c)) (numbered_none (none c)) }
    where
      none : (c v : ℕ) → Placed X W 0 c v → ⊥
      none c v p = let (a, b) = lawful.within v p.existential in omega (arith, p.most)

  -- What is placed stays so as more are, and only the new one is new.
  placed_still : {m c v : ℕ} → Placed X W m c v → Placed X W (m + 1) c v
  placed_still p = record { existential = p.existential; most = omega (arith, p.most); class = p.class }

  placed_before : {m c v : ℕ} → v ≢ m + 1 → Placed X W (m + 1) c v → Placed X W m c v
  placed_before other p = record { existential = p.existential; most = omega (arith, p.most); class = p.class }

  -- A variable that is not existential changes nothing ...
  pub placed_over : {m : ℕ} {counts : ℕ → ℕ} → X.ex (m + 1) ≡ false → RowsCount (Placed X W m) counts → RowsCount (Placed X W (m + 1)) counts
  placed_over u r = rows_same (λ c v. (placed_still, λ p. placed_before (λ e. false≢true (sym u ∙ sym (ap X.ex e) ∙ p.existential)) p)) r

  -- ... and an existential adds one to the row of its class.
  pub placed_more : {m : ℕ} {counts counts' : ℕ → ℕ} → X.ex (m + 1) ≡ true → counts' (W.cls (m + 1)) ≡ counts (W.cls (m + 1)) + 1
      → ((c : ℕ) → c ≢ W.cls (m + 1) → counts' c ≡ counts c) → RowsCount (Placed X W m) counts → RowsCount (Placed X W (m + 1)) counts'
  placed_more {m} ex more kept r = rows_stored (W.cls (m + 1)) kept
      (subst (Numbered (Placed X W (m + 1) (W.cls (m + 1)))) (sym more)
      (numbered_more (m + 1) (λ p. omega (arith, p.most)) (λ v. (split v, join v)) (r.row (W.cls (m + 1)))))
      (λ c other v. (placed_still, λ p. placed_before (λ e. other (sym p.class ∙ ap W.cls e)) p))
      r
    where
      split : (v : ℕ) → Placed X W (m + 1) (W.cls (m + 1)) v → (v ≡ m + 1) ⊎ Placed X W m (W.cls (m + 1)) v
      split v p = by_cases (ℕ_discrete v (m + 1)) (λ e. inl e) (λ other. inr (placed_before other p))

      join : (v : ℕ) → (v ≡ m + 1) ⊎ Placed X W m (W.cls (m + 1)) v → Placed X W (m + 1) (W.cls (m + 1)) v
      join v s = ⊎_elim (λ e. record { existential = ap X.ex e ∙ ex; most = omega arith; class = ap W.cls e }) placed_still s

  -- With all variables placed and no class done, the rows count what they are to at the start of passing up.
  pub placed_all : {D : ℕ → Type 0} {counts : ℕ → ℕ} → Lawful X → ((c : ℕ) → D c → W.par c ≢ 0 → ⊥) → RowsCount (Placed X W X.count) counts
      → RowsCount (WithinBy X W D) counts
  placed_all {D} lawful none r = rows_same (λ c v. (
    λ p. record { existential = p.existential; passes = subst (Passes W D c) (sym p.class) there },
    λ w. record { existential = w.existential; most = (lawful.within v w.existential).1; class = stays w.passes },
  )) r
    where
      stays : {p c : ℕ} → Passes W D p c → c ≡ p
      stays there = refl
      stays (onward {c = c} d some a) = absurd (none c d some)

  -- To call the same classes done changes nothing ...
  pub pass_same : {D D' : ℕ → Type 0} {counts : ℕ → ℕ} → ((c : ℕ) → D c ↔ D' c) → RowsCount (WithinBy X W D) counts → RowsCount (WithinBy X W D') counts
  pass_same same r = rows_same (λ c v. (
    λ i. record { existential = i.existential; passes = passes_along (λ d some. (same d).0) i.passes },
    λ i. record { existential = i.existential; passes = passes_along (λ d some. (same d).1) i.passes },
  )) r

  -- ... and neither does finishing a class that has no parent.
  pub pass_over : {D D' : ℕ → Type 0} {w : ℕ} {counts : ℕ → ℕ} → Finishes D w D' → W.par w ≡ 0 → RowsCount (WithinBy X W D) counts
      → RowsCount (WithinBy X W D') counts
  pass_over {D} {D'} {w} f orphan r = rows_same (λ c v. (
    λ i. record { existential = i.existential; passes = passes_along (λ d some. f.kept d) i.passes },
    λ i. record { existential = i.existential; passes = passes_along back i.passes },
  )) r
    where
      back : (c : ℕ) → W.par c ≢ 0 → D' c → D c
      back c some d = ⊎_elim (λ old. old) (λ e. absurd (some (ap W.par e ∙ orphan))) (f.only c d)

-- A class that has a parent passes its count up, while neither is done.
module _ {X : Variables} {W : Table} (formed : WellFormed X W) {D D' : ℕ → Type 0} {w : ℕ}
    (f : Finishes D w D') (some : W.par w ≢ 0) (undone : D w → ⊥) (over : D (W.par w) → ⊥) where
  -- The way passes the parent as before, or it is a way to w that now goes on ...
  up_from : {c : ℕ} → Passes W D' (W.par w) c → Passes W D (W.par w) c ⊎ Passes W D w c
  up_from there = inl there
  up_from (onward {c = c} d s a) = ⊎_elim (λ old. ⊎_elim (λ q. inl (onward old s q)) (λ q. inr (onward old s q)) (up_from a))
      (λ e. inr (subst (Passes W D w) (sym e) there)) (f.only c d)

  up_old : {p c : ℕ} → Passes W D p c → Passes W D' p c
  up_old a = passes_along (λ c s. f.kept c) a

  up_new : {c : ℕ} → Passes W D w c → Passes W D' (W.par w) c
  up_new there = onward f.new some there
  up_new (onward {c = c} d s a) = onward (f.kept c d) s (up_new a)

  -- ... and never both.
  up_apart : {c : ℕ} → Passes W D (W.par w) c → Passes W D w c → ⊥
  up_apart there q = omega (arith, above_falls formed (passes_above q).1, ((formed.right w).parent some).less)
  up_apart (onward d s a) there = undone d
  up_apart (onward d s a) (onward e t b) = up_apart a b

  -- The way ends at the parent, which is not done.
  up_ends : {q c : ℕ} → c ≡ W.par w → Passes W D' q c → q ≡ W.par w
  up_ends e there = e
  up_ends e (onward {c = c} d s a) = ⊎_elim
      (λ old. absurd (over (subst D e old)))
      (λ e'. let l = ((formed.right w).parent some).less in let same = ap X.lev (sym e' ∙ e) in absurd (omega arith))
      (f.only c d)

  -- So no other class is passed by more.
  up_other : {q c : ℕ} → q ≢ W.par w → Passes W D' q c → Passes W D q c
  up_other n there = there
  up_other n (onward {c = c} d s a) = ⊎_elim (λ old. onward old s (up_other n a)) (λ e. absurd (n (up_ends (ap W.par e) a))) (f.only c d)

  -- The count of w is added to that of its parent.
  pub pass_up : {counts counts' : ℕ → ℕ} → counts' (W.par w) ≡ counts (W.par w) + counts w → ((c : ℕ) → c ≢ W.par w → counts' c ≡ counts c)
      → RowsCount (WithinBy X W D) counts → RowsCount (WithinBy X W D') counts'
  pass_up more kept r = rows_stored (W.par w) kept
      (subst (Numbered (WithinBy X W D' (W.par w))) (sym more)
      (numbered_plus (r.row (W.par w)) (λ v i j. up_apart i.passes j.passes)
      (λ v. (
        λ i. ⊎_elim (λ q. inl (by i q)) (λ q. inr (by i q)) (up_from i.passes),
        λ s. ⊎_elim (λ i. by i (up_old i.passes)) (λ i. by i (up_new i.passes)) s,
      ))
      (r.row w)))
      (λ c other v. (λ i. by i (up_old i.passes), λ i. by i (up_other other i.passes)))
      r
    where
      by : {E F : ℕ → Type 0} {c d v : ℕ} → WithinBy X W E c v → Passes W F d (W.cls v) → WithinBy X W F d v
      by i q = record { existential = i.existential; passes = q }

-- With every class done that has a parent, the counts are right.
pub pass_all : {X : Variables} {W : Table} → WellFormed X W → {D : ℕ → Type 0} {counts : ℕ → ℕ} → ((c : ℕ) → W.par c ≢ 0 → D c)
    → RowsCount (WithinBy X W D) counts → Counted X W counts
pass_all formed all r = (counted_rows formed).1 (rows_same (λ c v. (
  λ i. let (k, a) = passes_above i.passes in record { existential = i.existential; rises = k; above = a },
  λ w. record { existential = w.existential; passes = above_passes all w.above },
)) r)
