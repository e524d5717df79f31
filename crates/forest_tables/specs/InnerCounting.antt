-- Inner: what the functions that count hold in a table of their own, row v for the variable v, on the way to the counts of a forest. Nobody needs to
-- believe this: what a count is stands in forest_theory/specs/Counts.
use Rattle.std.specs.Prelude.{ℕ, ◌+◌, ◌≡◌, cond, List, eqb, length, get_or, set}
use Rattle.terms.specs.InnerLimits.{variable_rows}
use Rattle.forest_theory.specs.Tables.{WellFormed, row, lent}
use Rattle.forest_theory.specs.Counts.{CountRow, Counted}
use Rattle.forest_theory.specs.InnerPassing.{RowsCount, Placed}
use Rattle.forest_tables.specs.Formula.{variables}

-- the rows of a table count the v of which P c v holds, in row c
pub record Counting (P : ℕ → ℕ → Type 0) (table : List ℕ) : Type 0 where
  pub size : length table ≡ variable_rows
  pub rows : RowsCount P (λ v. get_or table v 0)

-- well-formed tables, by the prefix
abbrev pub FormedBy : ℕ → List ℕ → List ℕ → List ℕ → Type 0
FormedBy n es classes parents = WellFormed (variables n es) (lent (variables n es) classes parents)

-- what holds for any prefix by which class rows are well formed with some parents
abbrev pub ForClasses : ℕ → List ℕ → (List ℕ → List ℕ → Type 0) → Type 0
ForClasses n classes P = (es parents : List ℕ) → FormedBy n es classes parents → P es parents

-- the table counts the variables from 1 to m, each in its class
abbrev pub MembersTo : ℕ → List ℕ → List ℕ → List ℕ → ℕ → List ℕ → Type 0
MembersTo n es classes parents m = Counting (Placed (variables n es) (lent (variables n es) classes parents) m)

-- the count of w passed up to the row of its parent p, where it has one
unfoldable pub passed_up : ℕ → ℕ → List ℕ → List ℕ
passed_up p w table = cond (eqb p 0) table (set table p (get_or table p 0 + get_or table w 0))

-- the table holds the counts of the forest
pub record CountsOf (n : ℕ) (es classes parents table : List ℕ) : Type 0 where
  pub size : length table ≡ variable_rows
  pub counted : Counted (variables n es) (lent (variables n es) classes parents) (λ v. get_or table v 0)

-- a table of members becomes the table of counts
abbrev pub PassesUp : ℕ → List ℕ → List ℕ → List ℕ → List ℕ → Type 0
PassesUp n es parents table table' =
    (classes : List ℕ) → FormedBy n es classes parents → MembersTo n es classes parents n table → CountsOf n es classes parents table'

-- a lent count is right
abbrev pub RightCount : ℕ → List ℕ → List ℕ → List ℕ → List ℕ → ℕ → Type 0
RightCount n es classes parents counts = CountRow (variables n es) (lent (variables n es) classes parents) (row n counts)
