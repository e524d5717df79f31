-- Why y is in the set of x (rule 11.4): the ways from x to y, and of these the shortest, and of the shortest the first.
use Rattle.std.specs.Prelude.{ℕ, ◌≤◌, ◌<◌, ◌≡◌, true, false, ◌⊎◌, ℤ, length}
use mathlib.Core.List.{List, [], Memᴰ}
use Rattle.formula.specs.Tables.{at}
use Rattle.forest_theory.specs.Reach.{Variables}
use Rattle.forest_tables.specs.Formula.{signed}
use Rattle.forest_entries.specs.declared.Signs.{Signs}
use Rattle.path_check.specs.Paths.{clause_at, Acceptable}

-- the clause with the number k has a literal of x with which a way may begin: either, x itself, or its negation
abbrev pub Opens : Signs → List ℤ → ℕ → ℕ → Type 0
Opens Signs.Either ls x k = Memᴰ (signed true x) (clause_at ls k) ⊎ Memᴰ (signed false x) (clause_at ls k)
Opens Signs.Positive ls x k = Memᴰ (signed true x) (clause_at ls k)
Opens Signs.Negative ls x k = Memᴰ (signed false x) (clause_at ls k)

-- A way from x to y: a path that is acceptable for the pair, whose first clause has such a literal.
pub record Way (X : Variables) (ls : List ℤ) (signs : Signs) (x y : ℕ) (path : List ℕ) : Type 0 where
  pub acceptable : Acceptable X ls x y path
  pub opens : Opens signs ls x (at path 0)

-- compared number by number, a path does not come after another: at the first entry where they differ it has the lower number
abbrev pub NotAfter : List ℕ → List ℕ → Type 0
NotAfter path other = (i : ℕ) → i < length path → ((j : ℕ) → j < i → at path j ≡ at other j) → at path i ≤ at other i

-- a shortest way: none has fewer clauses
pub record Shortest (X : Variables) (ls : List ℤ) (signs : Signs) (x y : ℕ) (path : List ℕ) : Type 0 where
  pub way : Way X ls signs x y path
  pub least : (other : List ℕ) → Way X ls signs x y other → length path ≤ length other

-- the way that is given: a shortest one, and none that is as long comes before it
pub record FirstShortest (X : Variables) (ls : List ℤ) (signs : Signs) (x y : ℕ) (path : List ℕ) : Type 0 where
  pub shortest : Shortest X ls signs x y path
  pub first : (other : List ℕ) → Way X ls signs x y other → length other ≡ length path → NotAfter path other

-- what is written: that way, or nothing where there is none
pub data Explains (X : Variables) (ls : List ℤ) (signs : Signs) (x y : ℕ) (path : List ℕ) : Type 0 where
  by : FirstShortest X ls signs x y path → Explains X ls signs x y path
  none : path ≡ [] → ((other : List ℕ) → Way X ls signs x y other → ⊥) → Explains X ls signs x y path
