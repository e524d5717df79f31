-- Whether the rows of one variable are right, as the code finds it by the level table, and what the first bad row says of all.
use Prim.Native.Nat.{ℕ, ◌≤◌, ◌<◌}
use mathlib.Core.Path.{◌≡◌, refl, sym, ap, ◌∙◌, subst}
use mathlib.Core.Bool.{Bool, true, false}
use mathlib.Core.List.{List}
use mathlib.Core.Logic.{◌≢◌, ◌⊎◌, inl, inr, ◌↔◌}
use native.Mathlib.Omega.{arith}
use lib.ListN.{length, get_or}
use Rattle.terms.specs.Refusals.{First, None}
use Rattle.terms.proofs.Common.{clash}
use Rattle.terms.proofs.Verdicts.{first_at}
use Rattle.forest_theory.specs.Reach.{Variables}
use Rattle.forest_theory.specs.Tables.{Table, row, lent, ClassName, ClassRow, ParentRow, Row, WellFormed}
use Rattle.forest_theory.specs.Counts.{CountRow}
use Rattle.forest_tables.specs.Formula.{variables}
use Rattle.forest_tables.specs.InnerTabled.{tabled, existential_in}
use Rattle.forest_tables.specs.Causes.{ForestCause, short, bad_row, bad_count}
use Rattle.forest_tables.specs.Lent.{rows}
use Rattle.forest_tables.specs.InnerRows.{rows_of, FirstBad}

module _ (n : ℕ) (levels : List ℕ) (universals : List Bool) (classes parents : List ℕ) where
  abbrev X : Variables
  X = tabled n levels universals

  abbrev W : Table
  W = rows_of n classes parents

  abbrev Named : ℕ → Type 0
  Named c = (existential_in n universals c ≡ true) × (row n classes c ≡ c)

  pub named_class : {c : ℕ} → Named c → ClassName X W c
  unfolding lent
  named_class h = record { existential = h.0; itself = h.1 }

  pub class_named : {c : ℕ} → ClassName X W c → Named c
  unfolding lent
  class_named h = (h.existential, h.itself)

  -- A class row, from what its name k says; and what a right one says of k.
  pub class_right : (v k b o : ℕ) → k ≡ row n classes v → k ≤ v → Named k → b ≡ get_or levels k 0 → o ≡ get_or levels v 0 → b ≡ o → ClassRow X W v
  unfolding lent
  class_right v k b o is most named block own same =
      record {
        most = subst (λ c. c ≤ v) is most;
        name = named_class (subst Named is named);
        block = ap (λ c. get_or levels c 0) (sym is) ∙ sym block ∙ same ∙ own;
      }

  pub class_most : (v k : ℕ) → k ≡ row n classes v → ClassRow X W v → k ≤ v
  unfolding lent
  class_most v k is r = subst (λ c. c ≤ v) (sym is) r.most

  pub class_name : (v k : ℕ) → k ≡ row n classes v → ClassRow X W v → Named k
  unfolding lent
  class_name v k is r = subst Named (sym is) (class_named r.name)

  pub class_block : (v k b o : ℕ) → k ≡ row n classes v → b ≡ get_or levels k 0 → o ≡ get_or levels v 0 → ClassRow X W v → b ≡ o
  unfolding lent
  class_block v k b o is block own r = block ∙ ap (λ c. get_or levels c 0) is ∙ r.block ∙ sym own

  -- A class row that is its own name.
  pub class_own : (v k : ℕ) → k ≡ row n classes v → k ≡ v → existential_in n universals v ≡ true → ClassRow X W v
  unfolding lent
  class_own v k is same ex =
      class_right v k (get_or levels k 0) (get_or levels v 0) is (omega arith) (subst Named (sym same) (ex, sym is ∙ same)) refl refl
      (ap (λ c. get_or levels c 0) same)

  -- A parent row, from what the parent p says; and what a right one says of p.
  pub parent_right : (v p b o : ℕ) → p ≡ row n parents v → Named v → Named p → b ≡ get_or levels p 0 → o ≡ get_or levels v 0 → b < o → ParentRow X W v
  unfolding lent
  parent_right v p b o is child named block own less =
      record { child = named_class child; name = named_class (subst Named is named); less = subst (λ c. get_or levels c 0 < get_or levels v 0) is (omega arith) }

  pub parent_name : (v p : ℕ) → p ≡ row n parents v → ParentRow X W v → Named p
  unfolding lent
  parent_name v p is r = subst Named (sym is) (class_named r.name)

  pub parent_block : (v p b o : ℕ) → p ≡ row n parents v → b ≡ get_or levels p 0 → o ≡ get_or levels v 0 → ParentRow X W v → b < o
  unfolding lent
  parent_block v p b o is block own r =
      let less : get_or levels p 0 < get_or levels v 0 = subst (λ c. get_or levels c 0 < get_or levels v 0) (sym is) r.less in omega arith

-- The class row does not depend on the parents.
pub class_alone : (n : ℕ) (levels : List ℕ) (universals : List Bool) (classes ps qs : List ℕ) {v : ℕ}
    → ClassRow (X n levels universals classes ps) (W n levels universals classes ps) v
    → ClassRow (X n levels universals classes qs) (W n levels universals classes qs) v
unfolding lent
class_alone n levels universals classes ps qs r =
    record { most = r.most; name = record { existential = r.name.existential; itself = r.name.itself }; block = r.block }

module _ (n : ℕ) (levels : List ℕ) (universals : List Bool) (classes parents : List ℕ) (v k p : ℕ) (class_is : k ≡ row n classes v)
    (parent_is : p ≡ row n parents v) where
  -- The rows of an existential ...
  pub existential_right : existential_in n universals v ≡ true
      → ClassRow (X n levels universals classes parents) (W n levels universals classes parents) v
      → (p ≢ 0 → ParentRow (X n levels universals classes parents) (W n levels universals classes parents) v)
      → Row (X n levels universals classes parents) (W n levels universals classes parents) v
  unfolding lent
  existential_right ex class parent =
      record { universal = λ u. absurd (clash ex u); class = λ _. class; parent = λ some. parent (λ z. some (sym parent_is ∙ z)) }

  -- ... and of any other variable.
  pub universal_right : existential_in n universals v ≡ false → k ≡ 0 → p ≡ 0
      → Row (X n levels universals classes parents) (W n levels universals classes parents) v
  unfolding lent
  universal_right un zk zp =
      record {
        universal = λ _. (sym class_is ∙ zk, sym parent_is ∙ zp);
        class = λ ex. absurd (clash ex un);
        parent = λ some. absurd (some (sym parent_is ∙ zp));
      }

  pub universal_class : existential_in n universals v ≡ false → Row (X n levels universals classes parents) (W n levels universals classes parents) v
      → (k ≡ 0) × (p ≡ 0)
  unfolding lent
  universal_class un r = (class_is ∙ (r.universal un).0, parent_is ∙ (r.universal un).1)

  pub row_parent : p ≢ 0 → Row (X n levels universals classes parents) (W n levels universals classes parents) v
      → ParentRow (X n levels universals classes parents) (W n levels universals classes parents) v
  unfolding lent
  row_parent some r = r.parent (λ z. some (parent_is ∙ z))

-- Where P and Q hold of the same variables, the first bad row is the same by both.
pub bad_same : {P Q : ℕ → Type 0} {n bad : ℕ} → ((v : ℕ) → P v ↔ Q v) → FirstBad P n bad → FirstBad Q n bad
bad_same {bad = bad} same f =
    record { right = λ v a b first. (same v).0 (f.right v a b first); wrong = λ some. let w = f.wrong some in (w.0, λ q. w.1 ((same bad).1 q)) }

-- Where every table has a row for each variable, none is too short.
all_long : {n c p k : ℕ} → n ≤ c → n ≤ p → n ≤ k → (c < n) ⊎ (p < n) ⊎ (k < n) → ⊥
all_long a b d (inl l) = omega arith
all_long a b d (inr (inl l)) = omega arith
all_long a b d (inr (inr l)) = omega arith

-- A forest's verdict: tables that are too short, the first bad row, and once the rows are well formed the first bad count.
module _ {n : ℕ} {es classes parents counts : List ℕ} where
  low : (k p : ℕ) → ForestCause n es (rows classes parents counts) k p → 12 ≤ k
  low k p (short q _ _) = omega arith
  low k p (bad_row q _ _ _) = omega arith
  low k p (bad_count q _ _ _ _) = omega arith

  pub forest_short : (length classes < n) ⊎ (length parents < n) ⊎ (length counts < n) → First (ForestCause n es (rows classes parents counts)) 12 0
  forest_short small = first_at (λ e l. absurd (omega arith)) (short refl refl small) (λ k. low k 0)

  module _ (long : n ≤ length classes) (long' : n ≤ length parents) (long'' : n ≤ length counts) where
    pub forest_bad : (bad : ℕ) → bad ≢ 0 → FirstBad (Row (variables n es) (lent (variables n es) classes parents)) n bad
        → First (ForestCause n es (rows classes parents counts)) 12 bad
    forest_bad bad some f = first_at clean (bad_row refl (omega arith) (f.wrong some).0 (f.wrong some).1) (λ k. low k bad)
      where
        clean : (e : ℕ) → e < bad → (k : ℕ) → ForestCause n es (rows classes parents counts) k e → ⊥
        clean e l k (short _ _ small) = all_long long long' long'' small
        clean e l k (bad_row _ some' most wrong) = wrong (f.right e some' most (λ _. l))
        clean e l k (bad_count _ _ _ formed _) = (f.wrong some).1 (formed.right bad)

    module _ (formed : WellFormed (variables n es) (lent (variables n es) classes parents)) where
      pub forest_miscounted : (bad : ℕ) → bad ≢ 0 → FirstBad (CountRow (variables n es) (lent (variables n es) classes parents) (row n counts)) n bad
          → First (ForestCause n es (rows classes parents counts)) 12 bad
      forest_miscounted bad some f = first_at clean (bad_count refl (omega arith) (f.wrong some).0 formed (f.wrong some).1) (λ k. low k bad)
        where
          clean : (e : ℕ) → e < bad → (k : ℕ) → ForestCause n es (rows classes parents counts) k e → ⊥
          clean e l k (short _ _ small) = all_long long long' long'' small
          clean e l k (bad_row _ some' most wrong) = wrong (formed.right e)
          clean e l k (bad_count _ some' most _ wrong) = wrong (f.right e some' most (λ _. l))

      pub forest_fine : FirstBad (CountRow (variables n es) (lent (variables n es) classes parents) (row n counts)) n 0
          → None (ForestCause n es (rows classes parents counts))
      forest_fine f k e (short _ _ small) = all_long long long' long'' small
      forest_fine f k e (bad_row _ some most wrong) = wrong (formed.right e)
      forest_fine f k e (bad_count _ some most _ wrong) = wrong (f.right e some most (λ z. absurd (z refl)))
