-- How many existentials and class names well-formed class rows have, counted row after row: a row of 0, of a member, or of a class name.
use Prim.Native.Nat.{ℕ, ◌+◌, ◌-◌, ◌≤◌, ◌<◌}
use mathlib.Core.Path.{◌≡◌, refl, sym, ◌∙◌, ap, subst}
use mathlib.Core.Bool.{Bool, true, false, cond}
use mathlib.Core.List.{List}
use mathlib.Core.Logic.{◌≢◌}
use native.Mathlib.Omega.{arith}
use borrow.Author.Tests.{eq-eqb, ne_eqb}
use lib.ListN.{get_or}
use Rattle.forest_theory.specs.Reach.{Variables}
use Rattle.forest_theory.specs.InnerVariables.{Lawful}
use Rattle.forest_theory.specs.Tables.{Table, lent, WellFormed}
use Rattle.forest_theory.specs.Counts.{how_many, names_itself}
use Rattle.forest_theory.proofs.Numbered.{how_many_next}
use Rattle.forest_theory.proofs.Rows.{row_at}
use Rattle.forest_tables.specs.InnerCounting.{ForClasses}
use Rattle.forest_tables.specs.Formula.{variables}
use Rattle.forest_tables.proofs.Agreeing.{lawful}
use Rattle.grow_rows.specs.InnerRows.{CensusOf}

pub census_none : (n : ℕ) (classes : List ℕ) → CensusOf n classes 0 0 0
unfolding how_many
census_none n classes = record { few = (omega arith, omega arith, omega arith); right = λ es parents formed. (refl, refl) }

module _ (X : Variables) (W : Table) (v : ℕ) where
  -- What the row of v adds to the existentials and to the class names.
  abbrev Adds : ℕ → ℕ → Type 0
  Adds a b = (◌≡◌ {A = ℕ} (cond (X.ex v) 1 0) a) × (◌≡◌ {A = ℕ} (cond (names_itself X W v) 1 0) b)

-- Of well-formed rows, a class row is 0 exactly where there is no existential.
module _ {X : Variables} {W : Table} (lawful : Lawful X) (formed : WellFormed X W) (v : ℕ) where
  none_there : W.cls v ≡ 0 → X.ex v ≡ false
  none_there e = go (X.ex v) refl
    where
      go : (b : Bool) → X.ex v ≡ b → X.ex v ≡ false
      go true ex = absurd (let k = lawful.within (W.cls v) ((formed.right v).class ex).name.existential in omega (arith, k.0))
      go false ex = ex

  some_there : W.cls v ≢ 0 → X.ex v ≡ true
  some_there n = go (X.ex v) refl
    where
      go : (b : Bool) → X.ex v ≡ b → X.ex v ≡ true
      go true ex = ex
      go false ex = absurd (n ((formed.right v).universal ex).0)

  adds_none : W.cls v ≡ 0 → Adds X W v 0 0
  unfolding names_itself
  adds_none e = rw (none_there e) (refl, refl)

  adds_member : W.cls v ≢ 0 → W.cls v ≢ v → Adds X W v 1 0
  unfolding names_itself
  adds_member n d = rw (some_there n, ne_eqb (W.cls v) v d) (refl, refl)

  adds_name : W.cls v ≢ 0 → W.cls v ≡ v → Adds X W v 1 1
  unfolding names_itself
  adds_name n e = rw (some_there n, eq-eqb (W.cls v) v e) (refl, refl)

-- One row more, which adds a and b.
module _ {n : ℕ} {classes : List ℕ} {v exs named : ℕ} (c : CensusOf n classes v exs named) (more : v < n) where
  next_row : (es parents : List ℕ) → (lent (variables n es) classes parents).cls (v + 1) ≡ get_or classes v 0
  unfolding lent
  next_row es parents =
      let q : (v + 1) - 1 ≡ v = omega arith in
      row_at n (v + 1) classes (omega arith) (omega arith) ∙ ap (λ (u : ℕ). get_or classes u 0) q

  adds : (a b : ℕ) → b ≤ a → a ≤ 1
      → ForClasses n classes (λ es parents. Adds (variables n es) (lent (variables n es) classes parents) (v + 1) a b)
      → CensusOf n classes (v + 1) (exs + a) (named + b)
  adds a b l one is = record {
    few = let (x, y, z) = c.few in (omega arith, omega arith, omega arith);
    right = λ es parents formed.
        let (x, y) = c.right es parents formed in
        let (p, q) = is es parents formed in
        let X = variables n es in
        let W = lent X classes parents in
        (omega (arith, how_many_next X.ex v), omega (arith, how_many_next (names_itself X W) v));
  }

  -- The three kinds of row: of no existential, of a member, of a class name.
  pub census_universal : get_or classes v 0 ≡ 0 → CensusOf n classes (v + 1) exs named
  census_universal e =
      let x : exs + 0 ≡ exs = omega arith in
      let y : named + 0 ≡ named = omega arith in
      subst (λ (i : ℕ). CensusOf n classes (v + 1) i named) x (subst (CensusOf n classes (v + 1) (exs + 0)) y
      (adds 0 0 (omega arith) (omega arith) (λ es parents formed. adds_none (lawful n es) formed (v + 1) (next_row es parents ∙ e))))

  pub census_member : get_or classes v 0 ≢ 0 → get_or classes v 0 ≢ v + 1 → CensusOf n classes (v + 1) (exs + 1) named
  census_member some other =
      let y : named + 0 ≡ named = omega arith in
      subst (CensusOf n classes (v + 1) (exs + 1)) y (adds 1 0 (omega arith) (omega arith) (λ es parents formed.
      let row = sym (next_row es parents) in adds_member (lawful n es) formed (v + 1) (λ z. some (row ∙ z)) (λ z. other (row ∙ z))))

  pub census_name : get_or classes v 0 ≢ 0 → get_or classes v 0 ≡ v + 1 → CensusOf n classes (v + 1) (exs + 1) (named + 1)
  census_name some own =
      adds 1 1 (omega arith) (omega arith) (λ es parents formed.
      let row = next_row es parents in adds_name (lawful n es) formed (v + 1) (λ z. some (sym row ∙ z)) (row ∙ own))
