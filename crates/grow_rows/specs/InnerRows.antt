-- Inner: what is made of lent tables, that is, the rows of a forest, their counts, and how many existentials and class names they have.
use Rattle.std.specs.Prelude.{ℕ, ◌+◌, ◌≤◌, ◌<◌, ◌≡◌, List, get_or}
use Rattle.forest_theory.specs.Reach.{Variables}
use Rattle.forest_theory.specs.Tables.{row, lent}
use Rattle.forest_theory.specs.InnerClimb.{Represents}
use Rattle.forest_theory.specs.Forest.{Forest}
use Rattle.forest_theory.specs.Counts.{Counted, how_many, names_itself}
use Rattle.forest_tables.specs.Formula.{variables}
use Rattle.forest_tables.specs.InnerCounting.{ForClasses}
use Rattle.grow_passes.specs.Past.{Past}

-- The rows of classes and parents of 1 to n come to represent the joins J; those past n stay.
pub record Exact (X : Variables) (J : ℕ → ℕ → Type 0) (classes parents classes' parents' : List ℕ) : Type 0 where
  pub past : Past X.count classes classes' × Past X.count parents parents'
  pub represents : Represents X J (lent X classes' parents')

-- The rows of classes and parents of 1 to n become the forest of the joins J; those past n stay.
pub record Rowed (X : Variables) (J : ℕ → ℕ → Type 0) (classes parents classes' parents' : List ℕ) : Type 0 where
  pub past : Past X.count classes classes' × Past X.count parents parents'
  pub forest : Forest X J (lent X classes' parents')

-- The first rows of a table with row v for the variable v are copied out, for 1 to at; the others stay.
pub record Copied (n : ℕ) (table rows : List ℕ) (at : ℕ) (rows' : List ℕ) : Type 0 where
  pub few : at ≤ n
  pub past : Past at rows rows'
  pub copy : (u : ℕ) → u < at → get_or rows' u 0 ≡ get_or table (u + 1) 0

-- The lent rows are the counts of the forest; those past n stay.
pub record Recounted (n : ℕ) (es classes parents counts counts' : List ℕ) : Type 0 where
  pub past : Past n counts counts'
  pub counted : Counted (variables n es) (lent (variables n es) classes parents) (row n counts')

-- Of 1 to v so many are existential and so many class names, by class rows that are well formed.
pub record CensusOf (n : ℕ) (classes : List ℕ) (v exs named : ℕ) : Type 0 where
  pub few : (named ≤ exs) × (exs ≤ v) × (v ≤ n)
  pub right : ForClasses n classes (λ es parents. (exs ≡ how_many (variables n es).ex v)
      × (named ≡ how_many (names_itself (variables n es) (lent (variables n es) classes parents)) v))
