-- A union-find (loose rows) over one depth: there are no parents, and two are in one class exactly if one is reached from the other.
use Prim.Native.Nat.{ℕ, ◌+◌, ◌-◌, ◌≤◌, ◌<◌}
use mathlib.Core.Path.{◌≡◌, refl, sym, ap, ◌∙◌, subst}
use mathlib.Core.List.{List}
use mathlib.Core.Logic.{⊎_elim, ◌≢◌, ◌↔◌, by_cases}
use native.Mathlib.Decide.{ℕ_discrete, dec_le}
use native.Mathlib.Omega.{arith}
use borrow.Author.Tests.{lt-ltb, le-ltb}
use lib.IntN.{ℤ}
use lib.ListN.{get_or}
use Rattle.terms.proofs.Common.{clash}
use Rattle.forest_theory.specs.Reach.{Variables, From, Reach, Joined, here, step}
use Rattle.forest_theory.specs.Tables.{Table, row}
use Rattle.forest_theory.proofs.Reach.{reach_one, reach_trans, reach_sym, reach_ends, reach_mono, allow}
use Rattle.forest_theory.proofs.Represent.{Link, to_class, to_parent, Linked, up, down, linked_sym}
use Rattle.forest_theory.proofs.Rows.{row_at, row_out}
use Rattle.forest_tables.specs.Formula.{joined}
use Rattle.grow_union_find.specs.InnerLoose.{Equal, Kept, table, ranked, Growing}
use Rattle.grow_passes.specs.InnerRows.{Holds, Settled, Written}
use Rattle.grow_union_find.proofs.Inside.{inside_reach, equal_trans}
use Rattle.grow_union_find.proofs.Steps.{no_zero, deep_some, some_deep}
use Rattle.dqbf_sets.specs.Inner.{Flat, Classed}

module _ {depths C₀ C P : List ℕ} {J : ℕ → ℕ → Type 0} (flat : (v : ℕ) → get_or depths v 0 ≤ 1) (g : Growing depths C₀ P)
    (equal : Equal (ranked depths) J (Linked (ranked depths) (table C₀ P))) (s : Settled C₀ C) where
  abbrev D : Variables
  D = ranked depths

  abbrev W : Table
  W = table C P

  kept : Kept D (table C₀ P) W
  kept = s.kept D P (no_zero g) g.loose

  same : Equal D J (Linked D W)
  same = equal_trans equal kept.equal

  no_parent : (v : ℕ) → get_or P v 0 ≢ 0 → ⊥
  no_parent v n = let r = kept.loose.parent v n in omega (arith, r.less, flat v, deep_some depths (get_or P v 0) r.existential)

  -- Along a link the class stays.
  link_class : (u z : ℕ) → Link D W u z → get_or C u 0 ≡ get_or C z 0
  link_class u z (to_class ex e) = sym (s.names u) ∙ ap (λ (w : ℕ). get_or C w 0) e
  link_class u z (to_parent n e) = absurd (no_parent u n)

  linked_class : (u z : ℕ) → Linked D W u z → get_or C u 0 ≡ get_or C z 0
  linked_class u z (up l) = link_class u z l
  linked_class u z (down l) = sym (link_class z u l)

  reach_class : {a b : ℕ} → Reach (Linked D W) (From D 1) a b → get_or C a 0 ≡ get_or C b 0
  reach_class here = refl
  reach_class (step {y = y} {z = z} r j e) = reach_class r ∙ linked_class y z j

  to_name : {a : ℕ} → From D 1 a → Reach (Linked D W) (From D 1) a (get_or C a 0)
  to_name {a} f =
      let r = kept.loose.class a f.existential in
      reach_one (up (to_class f.existential refl)) (allow r.existential (omega (arith, f.deep, r.block)))

  class_reach : {a b : ℕ} → From D 1 a → From D 1 b → Reach J (From D 1) a b ↔ (get_or C a 0 ≡ get_or C b 0)
  class_reach {a} {b} fa fb = (
    λ r. reach_class (inside_reach same.there fa r),
    λ e.
        inside_reach same.back fa
        (reach_trans (subst (λ (w : ℕ). Reach (Linked D W) (From D 1) a w) e (to_name fa)) (reach_sym linked_sym fb (to_name fb))),
  )

  class_some : {a : ℕ} → From D 1 a → get_or C a 0 ≢ 0
  class_some {a} f z = clash (sym (ap D.ex z) ∙ (kept.loose.class a f.existential).existential) (no_zero g)

  class_none : (v : ℕ) → get_or depths v 0 ≡ 0 → get_or C v 0 ≡ 0
  class_none v z = (kept.loose.universal v (le-ltb 0 (get_or depths v 0) (omega arith))).0

  class_most : (v : ℕ) → get_or C v 0 ≤ v
  class_most v =
      by_cases (ℕ_discrete (get_or depths v 0) 0) (λ z. omega (arith, class_none v z)) (λ some. (kept.loose.class v (some_deep depths v some)).most)

-- Rows with 1 for what may be stepped on are the depths, and the settled rows are written in their place.
module _ {n : ℕ} (ls : List ℤ) {rows depths C₀ C P rows' ups ups' : List ℕ} (few : n ≤ 4096) (flat : Flat n rows)
    (read : (v : ℕ) → get_or depths v 0 ≡ row n rows v) (h : Holds depths C₀ P (joined ls)) (s : Settled C₀ C)
    (w : Written n C P rows rows' ups ups') where
  low : (v : ℕ) → get_or depths v 0 ≤ 1
  low v = let q = read v in ⊎_elim (λ e. omega arith) (λ e. omega arith) (flat v)

  abbrev E : ℕ → Type 0
  E v = row n rows v ≡ 1

  to_depth : (v : ℕ) → E v → From (ranked depths) 1 v
  to_depth v e = let q = read v in allow (lt-ltb 0 (get_or depths v 0) (omega arith)) (omega arith)

  of_depth : (v : ℕ) → From (ranked depths) 1 v → E v
  of_depth v f = let q = read v in let d = f.deep in ⊎_elim (λ e. e) (λ e. absurd (omega arith)) (flat v)

  rows_are : (v : ℕ) → row n rows' v ≡ get_or C v 0
  rows_are v = by_cases (dec_le 1 v) (λ l. by_cases (dec_le v n) (inside l) (λ k. outside (λ _. omega arith))) (λ l. outside (λ k. absurd (l k)))
    where
      inside : 1 ≤ v → v ≤ n → row n rows' v ≡ get_or C v 0
      inside l k =
          let back : (v - 1) + 1 ≡ v = omega arith in
          row_at n v rows' l k ∙ w.class (v - 1) (omega arith) ∙ ap (λ (u : ℕ). get_or C u 0) back

      outside : (1 ≤ v → n < v) → row n rows' v ≡ get_or C v 0
      outside k = row_out n v rows' k ∙ sym (class_none low h.growing h.equal s v (read v ∙ row_out n v rows k))

  stepped : (v : ℕ) → row n rows' v ≢ 0 → E v
  stepped v some =
      ⊎_elim (λ e. e) (λ z. absurd (some (rows_are v ∙ class_none low h.growing h.equal s v (read v ∙ z)))) (flat v)

  -- two that may be stepped on are in one class exactly if one is reached from the other
  one_class : (a b : ℕ) → E a → E b → Reach (Joined (joined ls)) (From (ranked depths) 1) a b ↔ (get_or C a 0 ≡ get_or C b 0)
  one_class a b oa ob = class_reach low h.growing h.equal s (to_depth a oa) (to_depth b ob)

  pub classed : Classed n E ls rows'
  classed =
      record {
        small = λ v.
            by_cases (dec_le v 4096) (λ l. let q = rows_are v in let m = class_most low h.growing h.equal s v in omega arith)
            (λ l. let q = row_out n v rows' (λ _. omega arith) in omega arith);
        there = λ a b e some.
            let oa = stepped a (λ z. some (sym e ∙ z)) in
            (oa, reach_mono (λ u v j. j) of_depth ((one_class a b oa (stepped b some)).1 (sym (rows_are a) ∙ e ∙ rows_are b)));
        back = λ a b oa r.
            let ob = reach_ends oa r in (
              rows_are a ∙ (one_class a b oa ob).0 (reach_mono (λ u v j. j) to_depth r) ∙ sym (rows_are b),
              λ z. class_some low h.growing h.equal s (to_depth b ob) (sym (rows_are b) ∙ z),
            );
      }
