-- The causes of refusal 12, as the table of rule 8.1 and the rules of well formed have them (rule 3.3, rule 4.1).
use Rattle.std.specs.Prelude.{ℕ, ◌<◌, ◌≤◌, ◌≡◌, List, ◌⊎◌, length}
use Rattle.forest_theory.specs.Tables.{row, lent, Row, WellFormed}
use Rattle.forest_theory.specs.Counts.{CountRow}
use Rattle.forest_tables.specs.Formula.{variables}
use Rattle.forest_tables.specs.Lent.{Rows}

-- 12: forest tables lent as input not well formed, by n and the prefix
pub data ForestCause (n : ℕ) (es : List ℕ) (r : Rows) (number place : ℕ) : Type 0 where
  -- shorter than n: place 0
  short : number ≡ 12 → place ≡ 0 → (length r.classes < n) ⊎ (length r.parents < n) ⊎ (length r.counts < n)
      → ForestCause n es r number place
  -- else the variable of a bad row of class names or parents
  bad_row : number ≡ 12 → 1 ≤ place → place ≤ n → (Row (variables n es) (lent (variables n es) r.classes r.parents) place → ⊥)
      → ForestCause n es r number place
  -- and once all of these are well formed, of a bad count
  bad_count : number ≡ 12 → 1 ≤ place → place ≤ n → WellFormed (variables n es) (lent (variables n es) r.classes r.parents)
      → (CountRow (variables n es) (lent (variables n es) r.classes r.parents) (row n r.counts) place → ⊥)
      → ForestCause n es r number place
