-- The counts of formula A, before and after P8 adds {1 -2} (rule 17.1): rows 1 and 2 go from 3 and 1 to 4 and 0, and of 7 classes 6 are left.
use Prim.Native.Nat.{ℕ}
use mathlib.Core.Path.{◌≡◌, refl, subst}
use mathlib.Core.List.{List, [], ◌∷◌}
use Rattle.forest_theory.specs.Reach.{Joined}
use Rattle.forest_theory.specs.Tables.{row, lent}
use Rattle.forest_theory.specs.Forest.{Forest}
use Rattle.forest_theory.specs.Counts.{Counted, how_many, names_itself}
use Rattle.forest_theory.specs.InnerSearch.{has}
use Rattle.forest_theory.specs.InnerFusing.{fill, classes_up, marks, goes_before, under, fuse_class, fuse_parent, Rows, table_of, rows_by}
use Rattle.forest_theory.specs.InnerFusing.{fuse_marks, fuse, fuse_all, singles, forest_of, count_of, counts_of}
use Rattle.forest_theory.proofs.Growth.{forest_is}
use Rattle.forest_theory.proofs.Counting.{counts_counted}
use Rattle.forest_theory.proofs.FormulaA.{A, clauses, with, A-lawful, forest_by}

-- The rows of formula A ...
abbrev pub rows_A : Rows
rows_A = record { classes = 1 ∷ 2 ∷ 0 ∷ 4 ∷ 5 ∷ 0 ∷ 7 ∷ 8 ∷ 9 ∷ []; parents = 0 ∷ 0 ∷ 0 ∷ 0 ∷ 1 ∷ 0 ∷ 4 ∷ 4 ∷ 5 ∷ [] }

-- ... and with {1 -2} added.
abbrev pub rows_12 : Rows
rows_12 = record { classes = 1 ∷ 1 ∷ 0 ∷ 4 ∷ 5 ∷ 0 ∷ 7 ∷ 8 ∷ 9 ∷ []; parents = 0 ∷ 0 ∷ 0 ∷ 0 ∷ 1 ∷ 0 ∷ 4 ∷ 4 ∷ 5 ∷ [] }

-- What antt computes.
record Computed : Type 0 where
  forest_A : forest_of A clauses ≡ rows_A
  counts_A : counts_of A (table_of A rows_A) ≡ 3 ∷ 1 ∷ 0 ∷ 3 ∷ 2 ∷ 0 ∷ 1 ∷ 1 ∷ 1 ∷ []
  names_A : how_many (names_itself A (table_of A rows_A)) 9 ≡ 7
  forest_12 : forest_of A (with (1 ∷ 2 ∷ [])) ≡ rows_12
  counts_12 : counts_of A (table_of A rows_12) ≡ 4 ∷ 0 ∷ 0 ∷ 3 ∷ 2 ∷ 0 ∷ 1 ∷ 1 ∷ 1 ∷ []
  names_12 : how_many (names_itself A (table_of A rows_12)) 9 ≡ 6

-- It computes so.
computed : Computed
unfolding has fill classes_up marks goes_before under fuse_class fuse_parent table_of lent row rows_by fuse_marks fuse fuse_all singles forest_of
    count_of counts_of how_many names_itself
computed = record { forest_A = refl; counts_A = refl; names_A = refl; forest_12 = refl; counts_12 = refl; names_12 = refl }

-- The counts are what was computed.
counts_by : {cs : List (List ℕ)} (R : Rows) {counts : List ℕ} → Forest A (Joined cs) (table_of A R) → counts_of A (table_of A R) ≡ counts
    → Counted A (table_of A R) (row 9 counts)
counts_by R f e = subst (λ (l : List ℕ). Counted A (table_of A R) (row 9 l)) e (counts_counted A-lawful ((forest_is A-lawful).0 f).formed)

-- The two forests, their counts and how many classes each has.
pub record CountsOfA : Type 0 where
  pub forest : Forest A (Joined clauses) (table_of A rows_A)
  pub counts : Counted A (table_of A rows_A) (row 9 (3 ∷ 1 ∷ 0 ∷ 3 ∷ 2 ∷ 0 ∷ 1 ∷ 1 ∷ 1 ∷ []))
  pub classes : how_many (names_itself A (table_of A rows_A)) 9 ≡ 7
  pub forest_12 : Forest A (Joined (with (1 ∷ 2 ∷ []))) (table_of A rows_12)
  pub counts_12 : Counted A (table_of A rows_12) (row 9 (4 ∷ 0 ∷ 0 ∷ 3 ∷ 2 ∷ 0 ∷ 1 ∷ 1 ∷ 1 ∷ []))
  pub classes_12 : how_many (names_itself A (table_of A rows_12)) 9 ≡ 6

-- They are so.
pub counts_of_A : CountsOfA
counts_of_A =
    let f = forest_by computed.forest_A in
    let g = forest_by computed.forest_12 in
    record {
      forest = f;
      counts = counts_by rows_A f computed.counts_A;
      classes = computed.names_A;
      forest_12 = g;
      counts_12 = counts_by rows_12 g computed.counts_12;
      classes_12 = computed.names_12;
    }
