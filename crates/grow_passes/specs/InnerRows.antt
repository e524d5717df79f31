-- Inner: the tables that loose rows are worked in, from the depths of the variables to the rows that are written, and what each pass makes of them.
use Rattle.std.specs.Prelude.{ℕ, ◌+◌, ◌≤◌, ◌<◌, ◌≡◌, Bool, false, cond, not, ◌&&◌, List, leb, length, get_or}
use Rattle.terms.specs.Limits.{most_variables}
use Rattle.terms.specs.InnerLimits.{variable_rows}
use Rattle.forest_theory.specs.Reach.{Variables, Joined}
use Rattle.formula.specs.Meaning.{level, is_existential}
use Rattle.grow_union_find.specs.InnerLoose.{Equal, Loose, Kept, table, ranked, links, Growing}
use Rattle.grow_passes.specs.Past.{Past}

-- A table with a row for each number up to the limit, of which those past n hold 0.
pub record EndsAt (n : ℕ) (table : List ℕ) : Type 0 where
  pub few : n ≤ most_variables
  pub size : length table ≡ variable_rows
  pub past : (v : ℕ) → n < v → get_or table v 0 ≡ 0

-- The depth of v: its level plus one, if it is an existential of 1 to n, and else 0.
abbrev pub depth_of : ℕ → ℕ → ℕ → Bool → ℕ
depth_of n v level universal = cond (leb 1 v && leb v n && not universal) (level + 1) 0

-- The table of the depths of a formula's variables.
pub record Depths (n : ℕ) (es : List ℕ) (depths : List ℕ) : Type 0 where
  pub size : length depths ≡ variable_rows
  pub depth_is : (v : ℕ) → get_or depths v 0 ≡ cond (is_existential n es v) (level es v + 1) 0

-- The rows stand for the clauses.
pub record Holds (depths classes parents : List ℕ) (clauses : List (List ℕ)) : Type 0 where
  pub growing : Growing depths classes parents
  pub equal : Equal (ranked depths) (Joined clauses) (links depths classes parents)

-- The class rows are settled: every one names its class, and the rows stand for what they stood for.
pub record Settled (classes classes' : List ℕ) : Type 0 where
  pub names : (v : ℕ) → get_or classes' (get_or classes' v 0) 0 ≡ get_or classes' v 0
  pub kept : (X : Variables) (parents : List ℕ) → X.ex 0 ≡ false → Loose X (table classes parents)
      → Kept X (table classes parents) (table classes' parents)

-- The rows of 1 to n are written out: for each variable its class row, and the class of its parent.
pub record Written (n : ℕ) (classes parents : List ℕ) (rows rows' ups ups' : List ℕ) : Type 0 where
  pub past : Past n rows rows' × Past n ups ups'
  pub class : (u : ℕ) → u < n → get_or rows' u 0 ≡ get_or classes (u + 1) 0
  pub parent : (u : ℕ) → u < n → get_or ups' u 0 ≡ get_or classes (get_or parents (u + 1) 0) 0
