-- One step of joining two chains, by its kinds: two roots united, one hung over the other, or a rise to a parent. And the walk of such steps.
use Prim.Native.Nat.{ℕ, ◌≤◌, ◌<◌}
use mathlib.Core.Path.{◌≡◌, refl, sym, ◌∙◌, ap, subst₂}
use mathlib.Core.Bool.{true, false}
use mathlib.Core.List.{List, [], ◌∷◌}
use mathlib.Core.Logic.{◌≢◌, by_cases}
use native.Mathlib.Decide.{ℕ_discrete, dec_lt}
use native.Mathlib.Omega.{arith}
use borrow.Author.Tests.{ltb-true, lt-ltb, le-ltb}
use lib.ListN.{length, get_or, set, length-set, get_or-eq_default}
use lib.Seq.{get_or-set_same, get_or-set_other}
use Rattle.forest_theory.specs.Reach.{Variables}
use Rattle.terms.specs.InnerLimits.{variable_rows}
use Rattle.forest_theory.specs.InnerGrowth.{Added}
use Rattle.grow_union_find.specs.InnerLoose.{Equal, RootOf, Falling, FindsRoot, table, ranked, links, Growing, Pending, Roots, Stepped, Grew}
use Rattle.terms.proofs.Common.{clash}
use Rattle.grow_union_find.proofs.Inside.{inside_reach, equal_refl, equal_sym, equal_trans, pair_turned}
use Rattle.grow_union_find.proofs.Relinked.{moved, united, united_loose, hung, hung_loose, risen, idle}

-- What has a depth is in the table; an existential has one, and what has one is an existential.
pub depth_inside : (depths : List ℕ) (v : ℕ) → 0 < get_or depths v 0 → v < length depths
depth_inside depths v l = by_cases (dec_lt v (length depths)) (λ h. h) (λ h. absurd (omega (arith, get_or-eq_default depths 0 {n = v} (omega arith))))

pub deep_some : (depths : List ℕ) (v : ℕ) → (ranked depths).ex v ≡ true → 0 < get_or depths v 0
deep_some depths v ex = ltb-true 0 (get_or depths v 0) ex

pub some_deep : (depths : List ℕ) (v : ℕ) → get_or depths v 0 ≢ 0 → (ranked depths).ex v ≡ true
some_deep depths v n = lt-ltb 0 (get_or depths v 0) (omega arith)

-- v has a row in each of three tables.
pub record HasRows (depths C P : List ℕ) (v : ℕ) : Type 0 where
  pub depth : v < length depths
  pub class : v < length C
  pub parent : v < length P

module _ {depths C P : List ℕ} (g : Growing depths C P) where
  abbrev X : Variables
  X = ranked depths

  -- An existential has a row in each table.
  pub row_inside : {v : ℕ} → X.ex v ≡ true → v < variable_rows
  row_inside {v} ex = omega (arith, depth_inside depths v (deep_some depths v ex), g.sizes.0)

  pub has_rows : {v : ℕ} → X.ex v ≡ true → HasRows depths C P v
  has_rows ex =
      let inside = row_inside ex in
      record { depth = omega (arith, g.sizes.0); class = omega (arith, g.sizes.1); parent = omega (arith, g.sizes.2) }

  pub no_zero : X.ex 0 ≡ false
  no_zero = le-ltb 0 (get_or depths 0 0) (omega (arith, g.none))

  -- What a parent row says has less depth, and a row.
  pub parent_ex : (v : ℕ) → get_or P v 0 ≢ 0 → X.ex (get_or P v 0) ≡ true
  parent_ex v n = (g.loose.parent v n).existential

  pub parent_less : (v : ℕ) → X.ex v ≡ true → get_or depths (get_or P v 0) 0 < get_or depths v 0
  parent_less v ex = by_cases (ℕ_discrete (get_or P v 0) 0)
      (λ e. omega (arith, ap (λ (w : ℕ). get_or depths w 0) e, g.none, deep_some depths v ex))
      (λ n. (g.loose.parent v n).less)

  pub parent_inside : (v : ℕ) → get_or P v 0 < variable_rows
  parent_inside v = by_cases (ℕ_discrete (get_or P v 0) 0) (λ e. omega arith) (λ n. row_inside (parent_ex v n))

  -- Class rows fall.
  pub class_falls : (v : ℕ) → get_or C v 0 ≤ v
  class_falls v = by_cases (ℕ_discrete (get_or depths v 0) 0)
      (λ e. omega (arith, (g.loose.universal v (le-ltb 0 (get_or depths v 0) (omega arith))).0))
      (λ n. (g.loose.class v (some_deep depths v n)).most)

  pub falling : {v : ℕ} → X.ex v ≡ true → Falling C v
  falling ex = record { size = g.sizes.1; falls = class_falls; within = omega (arith, row_inside ex) }

  -- Two roots of one block become one class.
  unite_pair : (low high : ℕ) → X.ex low ≡ true → X.ex high ≡ true → get_or depths low 0 ≡ get_or depths high 0 → low < high
      → get_or C low 0 ≡ low → get_or C high 0 ≡ high
      → Stepped depths C P low high (set C high low) (set P high 0) low (get_or P high 0)
  unite_pair low high exl exh block less rl rh =
      let changed = get_or-set_same C high low 0 (has_rows exh).class in
      let cleared = get_or-set_same P high 0 0 (has_rows exh).parent in
      let rest : (u : ℕ) → u ≢ high → (get_or (set C high low) u 0 ≡ get_or C u 0) × (get_or (set P high 0) u 0 ≡ get_or P u 0) =
      λ u d. (get_or-set_other C high u low 0 d, get_or-set_other P high u 0 0 d) in
      record {
        growing = record {
          sizes = (g.sizes.0, length-set C high low ∙ g.sizes.1, length-set P high 0 ∙ g.sizes.2);
          none = g.none;
          loose = united_loose g.loose no_zero exl exh block less rl rh changed cleared rest;
        };
        equal = united g.loose no_zero exl exh block less rl rh changed cleared rest;
        pending = record { deep = exl; other = parent_ex high; order = omega (arith, parent_less high exh) };
        fell = omega (arith, parent_less high exh);
      }

module _ {depths C P : List ℕ} {p q : ℕ} (r : Roots depths C P p q) where
  g : Growing depths C P
  g = r.growing

  exp : (ranked depths).ex p ≡ true
  exp = r.pending.deep

  exq : (ranked depths).ex q ≡ true
  exq = r.pending.other r.some

  pub step_rows : HasRows depths C P p × HasRows depths C P q
  step_rows = (has_rows g exp, has_rows g exq)

  -- Of one block, the higher of the two is pointed to the lower: as they stand ...
  pub step_unite : get_or depths p 0 ≡ get_or depths q 0 → p < q → Stepped depths C P p q (set C q p) (set P q 0) p (get_or P q 0)
  step_unite e l = unite_pair g p q exp exq e l r.roots.0 r.roots.1

  -- ... or the other way round.
  pub step_unite_back : get_or depths p 0 ≡ get_or depths q 0 → q ≤ p → Stepped depths C P p q (set C p q) (set P p 0) q (get_or P p 0)
  step_unite_back e l =
      let s = unite_pair g q p exq exp (sym e) (let d = r.differ in omega arith) r.roots.1 r.roots.0 in
      record { growing = s.growing; equal = equal_trans pair_turned s.equal; pending = s.pending; fell = omega (arith, s.fell) }

  -- q takes the place of p's parent.
  pub step_hang : get_or depths p 0 ≢ get_or depths q 0 → get_or depths (get_or P p 0) 0 < get_or depths q 0 → Stepped depths C P p q C (set P p q) q (get_or P p 0)
  step_hang n under =
      let less : get_or depths q 0 < get_or depths p 0 = omega (arith, r.pending.order) in
      let changed = get_or-set_same P p q 0 step_rows.0.parent in
      let rest : (u : ℕ) → u ≢ p → get_or (set P p q) u 0 ≡ get_or P u 0 = λ u d. get_or-set_other P p u q 0 d in
      record {
        growing = record {
          sizes = (g.sizes.0, g.sizes.1, length-set P p q ∙ g.sizes.2);
          none = g.none;
          loose = hung_loose g.loose (no_zero g) exp exq r.roots.0 less under changed rest (λ u. refl);
        };
        equal = hung g.loose (no_zero g) exp exq r.roots.0 less under changed rest (λ u. refl);
        pending = record { deep = exq; other = parent_ex g p; order = omega arith };
        fell = omega (arith, parent_less g p exp);
      }

  -- p's parent is as deep as q or deeper.
  pub step_rise : get_or depths q 0 ≤ get_or depths (get_or P p 0) 0 → Stepped depths C P p q C P (get_or P p 0) q
  step_rise over =
      let some : get_or P p 0 ≢ 0 = λ z. omega (arith, ap (λ (w : ℕ). get_or depths w 0) z, g.none, deep_some depths q exq) in
      record {
        growing = g;
        equal = risen g.loose exp some over;
        pending = record { deep = parent_ex g p some; other = λ _. exq; order = over };
        fell = omega (arith, parent_less g p exp);
      }

-- A step whose rows and whose rest are equal to those of a known step.
pub stepped_is : {depths C P : List ℕ} {p q : ℕ} {C₁ C₂ P₁ P₂ : List ℕ} {a₁ a₂ b₁ b₂ : ℕ}
    → C₂ ≡ C₁ → P₂ ≡ P₁ → a₂ ≡ a₁ → b₂ ≡ b₁ → Stepped depths C P p q C₁ P₁ a₁ b₁ → Stepped depths C P p q C₂ P₂ a₂ b₂
stepped_is {depths} {C} {P} {p} {q} {C₂ = C₂} {P₂ = P₂} {a₁ = a₁} {b₁ = b₁} ec ep ea eb s =
    subst₂ (λ (a b : ℕ). Stepped depths C P p q C₂ P₂ a b) (sym ea) (sym eb)
    (subst₂ (λ (D Q : List ℕ). Stepped depths C P p q D Q a₁ b₁) (sym ec) (sym ep) s)

-- Of the pair p and q that is left to be joined the roots r and s, in rows that stand for the same.
pub record AtRoots (depths C₀ P : List ℕ) (p q : ℕ) (C : List ℕ) (r s : ℕ) : Type 0 where
  pub growing : Growing depths C P
  pub equal : Equal (ranked depths) (Added (links depths C₀ P) (p ∷ q ∷ [])) (Added (links depths C P) (r ∷ s ∷ []))
  pub pending : Pending depths r s
  pub some : s ≢ 0
  pub roots : (get_or C r 0 ≡ r) × (get_or C s 0 ≡ s)
  pub same : (get_or depths r 0 ≡ get_or depths p 0) × (get_or depths s 0 ≡ get_or depths q 0)

module _ {depths C P : List ℕ} {p q : ℕ} (g : Growing depths C P) (w : Pending depths p q) (n : q ≢ 0) where
  pub first_falling : Falling C p
  first_falling = falling g w.deep

  pub second_falling : {C₁ : List ℕ} {r : ℕ} → length C₁ ≡ length C → FindsRoot C C₁ p r → Falling C₁ q
  second_falling {C₁} l says =
      let h : Growing depths C₁ P = record {
        sizes = (g.sizes.0, l ∙ g.sizes.1, g.sizes.2);
        none = g.none;
        loose = (says (ranked depths) P g.loose w.deep).kept.loose;
      } in
      falling h (w.other n)

  -- Both roots found, the second after the first: the first is a root still.
  pub at_roots : (C₁ C₂ : List ℕ) {r s : ℕ} → length C₁ ≡ length C → length C₂ ≡ length C₁ → FindsRoot C C₁ p r → FindsRoot C₁ C₂ q s
      → AtRoots depths C P p q C₂ r s
  at_roots C₁ C₂ {r} {s} l k one two =
      let X = ranked depths in
      let f = one X P g.loose w.deep in
      let h = two X P f.kept.loose (w.other n) in
      let grown : Growing depths C₂ P = record { sizes = (g.sizes.0, k ∙ l ∙ g.sizes.1, g.sizes.2); none = g.none; loose = h.kept.loose } in
      let first : RootOf X (table C₂ P) p r = record {
        itself = h.kept.roots r f.root.itself;
        existential = f.root.existential;
        block = f.root.block;
        reached = inside_reach h.kept.equal.there (record { existential = w.deep; deep = omega arith }) f.root.reached;
      } in
      record {
        growing = grown;
        equal = moved (equal_trans f.kept.equal h.kept.equal) w.deep (w.other n) first h.root;
        pending = record { deep = first.existential; other = λ _. h.root.existential; order = omega (arith, w.order, first.block, h.root.block) };
        some = λ z. clash h.root.existential (ap X.ex z ∙ no_zero grown);
        roots = (first.itself, h.root.itself);
        same = (first.block, h.root.block);
      }

module _ {depths C₀ P : List ℕ} {p q : ℕ} {C : List ℕ} {r s : ℕ} (t : AtRoots depths C₀ P p q C r s) where
  -- One root: nothing is left.
  pub advance_same : r ≡ s → Stepped depths C₀ P p q C P r 0
  advance_same e = record {
    growing = t.growing;
    equal = equal_trans t.equal (equal_trans (idle (λ _. e)) (equal_sym (idle (λ ex. absurd (clash ex (no_zero t.growing))))));
    pending = record { deep = t.pending.deep; other = λ n. absurd (n refl); order = omega (arith, t.growing.none) };
    fell = omega (arith, t.growing.none, t.same.0, t.same.1, deep_some depths s (t.pending.other t.some));
  }

  -- Two roots, for one step.
  pub advance_roots : r ≢ s → Roots depths C P r s
  advance_roots d = record { growing = t.growing; pending = t.pending; some = t.some; roots = t.roots; differ = d }

  pub advance_step : {C₁ P₁ : List ℕ} {a b : ℕ} → Stepped depths C P r s C₁ P₁ a b → Stepped depths C₀ P p q C₁ P₁ a b
  advance_step u =
      let fell = u.fell in
      record { growing = u.growing; equal = equal_trans t.equal u.equal; pending = u.pending; fell = omega (arith, t.same.0, t.same.1) }

-- Two chains on the way to be joined: of a and b, p and q are left.
pub record Merging (depths C₀ P₀ : List ℕ) (a b : ℕ) (C P : List ℕ) (p q : ℕ) : Type 0 where
  pub growing : Growing depths C P
  pub equal : Equal (ranked depths) (Added (links depths C₀ P₀) (a ∷ b ∷ [])) (Added (links depths C P) (p ∷ q ∷ []))
  pub pending : Pending depths p q

pub merge_none : {depths C P : List ℕ} {a b : ℕ} → Growing depths C P → Pending depths a b → Merging depths C P a b C P a b
merge_none g w = record { growing = g; equal = equal_refl; pending = w }

module _ {depths C₀ P₀ : List ℕ} {a b : ℕ} {C P : List ℕ} {p q : ℕ} (m : Merging depths C₀ P₀ a b C P p q) where
  -- A step more.
  pub merge_step : {C₁ P₁ : List ℕ} {r s : ℕ} → Stepped depths C P p q C₁ P₁ r s → Merging depths C₀ P₀ a b C₁ P₁ r s
  merge_step t = record { growing = t.growing; equal = equal_trans m.equal t.equal; pending = t.pending }

  -- Nothing is left where the second is 0.
  pub merge_all : q ≡ 0 → Grew depths C₀ P₀ (a ∷ b ∷ []) C P
  merge_all z =
      let none : (ranked depths).ex q ≡ true → p ≡ q = λ ex. absurd (clash ex (ap (ranked depths).ex z ∙ no_zero m.growing)) in
      record { growing = m.growing; equal = equal_trans m.equal (idle none) }
