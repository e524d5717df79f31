-- From settled rows to the forest: the exact table, the variables of the formula in place of the depths, and the lent rows that are written.
use Prim.Native.Nat.{ℕ, suc, ◌+◌, ◌-◌, ◌≤◌, ◌<◌}
use mathlib.Core.Path.{◌≡◌, refl, sym, ◌∙◌, ap}
use mathlib.Core.Bool.{Bool, true, false, cond}
use mathlib.Core.List.{List}
use mathlib.Core.Logic.Iff
use mathlib.Core.Logic.{◌≢◌, by_cases}
use native.Mathlib.Decide.{dec_le}
use native.Mathlib.Omega.{arith}
use borrow.Author.Tests.{lt-ltb, le-ltb}
use lib.Dec.{ltb}
use lib.ListN.{get_or}
use Rattle.terms.specs.Limits.{most_variables}
use Rattle.terms.proofs.Common.{clash}
use Rattle.formula.specs.Meaning.{level, is_existential}
use Rattle.forest_tables.specs.Formula.{variables}
use Rattle.forest_tables.proofs.Agreeing.{lawful}
use Rattle.forest_theory.specs.Reach.{Variables, From, Reach}
use Rattle.forest_theory.specs.Tables.{Table, row, lent, ClassName, ClassRow, WellFormed}
use Rattle.forest_theory.specs.InnerClimb.{Represents}
use Rattle.forest_theory.proofs.Reach.{reach_one, reach_trans, reach_mono, allow}
use Rattle.forest_theory.proofs.Represent.{Link, to_class, to_parent, Linked, up, down, linked_sym, linked_tops}
use Rattle.forest_theory.proofs.Rows.{row_at, row_out}
use Rattle.forest_theory.proofs.Forest.{represents_rows, represents_reach, represents_forest}
use Rattle.grow_union_find.specs.InnerLoose.{Inside, Equal, Loose, table, ranked, links, Growing}
use Rattle.grow_passes.specs.InnerRows.{EndsAt, Depths, Settled, Written}
use Rattle.grow_rows.specs.InnerRows.{Exact, Rowed}
use Rattle.grow_union_find.proofs.Inside.{inside_reach, inside_links, equal_trans}
use Rattle.grow_union_find.proofs.Steps.{no_zero}

-- The table of settled rows, with the class of each parent.
abbrev exact : Table → Table
exact W = record { cls = W.cls; par = λ v. W.cls (W.par v) }

module _ {X : Variables} {W : Table} (loose : Loose X W) (none : X.ex 0 ≡ false) (names : (v : ℕ) → W.cls (W.cls v) ≡ W.cls v) where
  -- What has no parent has no class of a parent.
  orphan : (v : ℕ) → W.par v ≡ 0 → W.cls (W.par v) ≡ 0
  orphan v e = ap W.cls e ∙ (loose.universal 0 none).0

  exact_class : (v : ℕ) → X.ex v ≡ true → ClassRow X (exact W) v
  exact_class v ex = let r = loose.class v ex in record { most = r.most; name = record { existential = r.existential; itself = names v }; block = r.block }

  exact_formed : WellFormed X (exact W)
  exact_formed = record {
    right = λ v. record {
      universal = λ e. ((loose.universal v e).0, orphan v (loose.universal v e).1);
      class = exact_class v;
      parent = λ n. let r = loose.parent v (λ e. n (orphan v e)) in let k = exact_class (W.par v) r.existential in
          record { child = record { existential = r.child; itself = r.root }; name = k.name; less = omega (arith, r.less, k.block) };
    };
  }

  -- A link to a parent is one to its class and back; and the other way, since a parent and its class are of the same levels.
  exact_old : (i u z : ℕ) → From X i u → From X i z → Link X W u z → Reach (Linked X (exact W)) (From X i) u z
  exact_old i u z fu fz (to_class ex e) = reach_one (up (to_class ex e)) fz
  exact_old i u z fu fz (to_parent n e) =
      let r = loose.parent u n in
      let k = exact_class (W.par u) r.existential in
      let f : From X i (W.cls (W.par u)) = allow k.name.existential (omega (arith, fz.deep, ap X.lev e, k.block)) in
      reach_trans (reach_one (up (to_parent (λ q. clash k.name.existential (ap X.ex q ∙ none)) refl)) f)
      (reach_one (down (to_class fz.existential (ap W.cls (sym e)))) fz)

  exact_new : (i u z : ℕ) → From X i u → From X i z → Link X (exact W) u z → Reach (Linked X W) (From X i) u z
  exact_new i u z fu fz (to_class ex e) = reach_one (up (to_class ex e)) fz
  exact_new i u z fu fz (to_parent n e) =
      let p : W.par u ≢ 0 = λ q. n (orphan u q) in
      let r = loose.parent u p in
      let k = exact_class (W.par u) r.existential in
      let f : From X i (W.par u) = allow r.existential (omega (arith, fz.deep, ap X.lev e, k.block)) in
      reach_trans (reach_one (up (to_parent p refl)) f) (reach_one (up (to_class r.existential e)) fz)

  exact_equal : Equal X (Linked X W) (Linked X (exact W))
  exact_equal = record { there = inside_links linked_sym exact_old; back = inside_links linked_sym exact_new }

-- A well-formed table represents the joins that its links are equal to.
represents_links : {X : Variables} {J : ℕ → ℕ → Type 0} {W : Table} → WellFormed X W → Equal X J (Linked X W) → Represents X J W
represents_links formed equal = record {
  formed = formed;
  tops = λ i v y fv fy. Iff.trans (inside_reach equal.there fv, inside_reach equal.back fv) (linked_tops formed fv fy);
}

-- The variables of a formula and those of its table of depths.
module _ {n : ℕ} {es depths : List ℕ} (d : Depths n es depths) where
  abbrev X : Variables
  X = variables n es

  abbrev D : Variables
  D = ranked depths

  pub depth_existential : (v : ℕ) → X.ex v ≡ true → get_or depths v 0 ≡ level es v + 1
  depth_existential v ex = d.depth_is v ∙ ap (λ (b : Bool). cond b (level es v + 1) 0) ex

  pub ex_same : (v : ℕ) → D.ex v ≡ X.ex v
  ex_same v = go (is_existential n es v) refl
    where
      go : (b : Bool) → is_existential n es v ≡ b → ltb 0 (get_or depths v 0) ≡ is_existential n es v
      go true e = lt-ltb 0 (get_or depths v 0) (omega (arith, depth_existential v e)) ∙ sym e
      go false e = le-ltb 0 (get_or depths v 0) (omega (arith, d.depth_is v ∙ ap (λ (b : Bool). cond b (level es v + 1) 0) e)) ∙ sym e

  -- What is of level i by the formula is of level i + 1 by depths.
  to_depth : {i v : ℕ} → From X i v → From D (suc i) v
  to_depth {v = v} f = allow (ex_same v ∙ f.existential) (omega (arith, f.deep, depth_existential v f.existential))

  of_depth : {i v : ℕ} → From D (suc i) v → From X i v
  of_depth {v = v} f = let ex = sym (ex_same v) ∙ f.existential in allow ex (omega (arith, f.deep, depth_existential v ex))

  inside_formula : {J K : ℕ → ℕ → Type 0} → Inside D J K → Inside X J K
  inside_formula s = record { does = λ i a b fa fb j. reach_mono (λ u w l. l) (λ u f. of_depth f) (s.does (suc i) a b (to_depth fa) (to_depth fb) j) }

  link_formula : {W : Table} {u z : ℕ} → Link D W u z → Link X W u z
  link_formula {u = u} (to_class ex e) = to_class (sym (ex_same u) ∙ ex) e
  link_formula (to_parent n e) = to_parent n e

  formula_link : {W : Table} {u z : ℕ} → Link X W u z → Link D W u z
  formula_link {u = u} (to_class ex e) = to_class (ex_same u ∙ ex) e
  formula_link (to_parent n e) = to_parent n e

  linked_formula : {W : Table} (u z : ℕ) → Linked D W u z → Linked X W u z
  linked_formula u z (up l) = up (link_formula l)
  linked_formula u z (down l) = down (link_formula l)

  formula_linked : {W : Table} (u z : ℕ) → Linked X W u z → Linked D W u z
  formula_linked u z (up l) = up (formula_link l)
  formula_linked u z (down l) = down (formula_link l)

  -- What is equal by depths is equal by the formula, and the links are the same.
  pub equal_formula : {J K : ℕ → ℕ → Type 0} → Equal D J K → Equal X J K
  equal_formula s = record { there = inside_formula s.there; back = inside_formula s.back }

  pub equal_linked : {W : Table} → Equal X (Linked D W) (Linked X W)
  equal_linked = record {
    there = record { does = λ i u z fu fz l. reach_one (linked_formula u z l) fz };
    back = record { does = λ i u z fu fz l. reach_one (formula_linked u z l) fz };
  }

  class_formula : {W : Table} {c : ℕ} → ClassName D W c → ClassName X W c
  class_formula {c = c} k = record { existential = sym (ex_same c) ∙ k.existential; itself = k.itself }

  formed_formula : {W : Table} → WellFormed D W → WellFormed X W
  formed_formula {W} f = record {
    right = λ v. record {
      universal = λ e. (f.right v).universal (ex_same v ∙ e);
      class = λ e. let r = (f.right v).class (ex_same v ∙ e) in let k = class_formula r.name in
          record { most = r.most; name = k; block = omega (arith, r.block, depth_existential v e, depth_existential (W.cls v) k.existential) };
      parent = λ p. let r = (f.right v).parent p in let c = class_formula r.child in let k = class_formula r.name in
          record { child = c; name = k; less = omega (arith, r.less, depth_existential v c.existential, depth_existential (W.par v) k.existential) };
    };
  }

  -- Outside 1 to n there is no depth.
  depth_out : (v : ℕ) → (1 ≤ v → n < v) → get_or depths v 0 ≡ 0
  depth_out v h = d.depth_is v ∙ ap (λ (b : Bool). cond b (level es v + 1) 0) (go (is_existential n es v) refl)
    where
      go : (b : Bool) → is_existential n es v ≡ b → is_existential n es v ≡ false
      go true e = absurd (let k = (lawful n es).within v e in omega (arith, h k.0, k.1))
      go false e = e

  pub depth_none : get_or depths 0 0 ≡ 0
  depth_none = depth_out 0 (λ l. absurd (omega arith))

  pub depth_ends : n ≤ most_variables → EndsAt n depths
  depth_ends few = record { few = few; size = d.size; past = λ v h. depth_out v (λ _. h) }

  -- The lent rows that are written out are the settled rows.
  module _ {C P rows rows' ups ups' : List ℕ} (loose : Loose D (table C P)) (none : D.ex 0 ≡ false) (w : Written n C P rows rows' ups ups') where
    rows_exact : (v : ℕ) → (get_or C v 0 ≡ row n rows' v) × (get_or C (get_or P v 0) 0 ≡ row n ups' v)
    rows_exact v = by_cases (dec_le 1 v) (λ l. by_cases (dec_le v n) (inside l) (λ h. outside (λ _. omega arith))) (λ l. outside (λ h. absurd (l h)))
      where
        inside : 1 ≤ v → v ≤ n → (get_or C v 0 ≡ row n rows' v) × (get_or C (get_or P v 0) 0 ≡ row n ups' v)
        inside l h =
            let back : v ≡ (v - 1) + 1 = omega arith in (
              ap (λ (u : ℕ). get_or C u 0) back ∙ sym (w.class (v - 1) (omega arith)) ∙ sym (row_at n v rows' l h),
              ap (λ (u : ℕ). get_or C (get_or P u 0) 0) back ∙ sym (w.parent (v - 1) (omega arith)) ∙ sym (row_at n v ups' l h),
            )

        outside : (1 ≤ v → n < v) → (get_or C v 0 ≡ row n rows' v) × (get_or C (get_or P v 0) 0 ≡ row n ups' v)
        outside h =
            let e = loose.universal v (le-ltb 0 (get_or depths v 0) (omega (arith, depth_out v h))) in
            (e.0 ∙ sym (row_out n v rows' h), ap (λ (u : ℕ). get_or C u 0) e.1 ∙ (loose.universal 0 none).0 ∙ sym (row_out n v ups' h))

  -- Loose rows, settled and written out, represent what they stand for ...
  pub written_exact : {C₀ C P rows rows' ups ups' : List ℕ} → Growing depths C₀ P → Settled C₀ C → Written n C P rows rows' ups ups'
      → Exact X (links depths C₀ P) rows ups rows' ups'
  unfolding lent
  written_exact {P = P} g s w =
      let none = no_zero g in
      let k = s.kept D P none g.loose in
      let formed = exact_formed k.loose none s.names in
      let same = equal_formula (equal_trans k.equal (exact_equal k.loose none s.names)) in
      let rep = represents_links (formed_formula formed) (equal_trans same equal_linked) in
      record { past = w.past; represents = represents_rows (rows_exact k.loose none w) rep }

-- ... and so they are the forest of any joins that reach what these reach.
pub exact_forest : {X : Variables} {J K : ℕ → ℕ → Type 0} {rows ups rows' ups' : List ℕ} → Equal X J K → Exact X K rows ups rows' ups'
    → Rowed X J rows ups rows' ups'
exact_forest e x = record {
  past = x.past;
  forest = represents_forest (represents_reach (λ i v y fv fy. (inside_reach e.back fv, inside_reach e.there fv)) x.represents);
}
