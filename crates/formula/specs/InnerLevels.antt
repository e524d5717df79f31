-- Inner: an accepted prefix, and its level table, in which functions look levels and quantifiers up. Nobody needs to believe this: what a level
-- is stands in Meaning.
use Rattle.std.specs.Prelude.{ℕ, ◌≤◌, ◌<◌, ◌≡◌, Bool, false, List, length, get_or}
use Rattle.terms.specs.Limits.{most_variables, prefix_entries}
use Rattle.terms.specs.InnerLimits.{variable_rows}
use Rattle.terms.specs.Refusals.{None}
use Rattle.formula.specs.Causes.{PrefixCause}
use Rattle.formula.specs.Meaning.{level, is_universal, blocks, free_level_of}

-- A variable count and a prefix that check accepts.
pub record SoundPrefix (n : ℕ) (es : List ℕ) : Type 0 where
  pub few : n ≤ most_variables
  pub short : length es ≤ prefix_entries
  pub faultless : None (PrefixCause n es)

-- The two tables have a row for each variable up to the limit ...
abbrev pub LevelRows : List ℕ → List Bool → Type 0
LevelRows levels universals = (length levels ≡ variable_rows) × (length universals ≡ variable_rows)

-- ... and before any block is passed, every row is that of a free variable.
abbrev pub AllFree : ℕ → List ℕ → List Bool → Type 0
AllFree free levels universals =
    ((v : ℕ) → v < variable_rows → get_or levels v 0 ≡ free) × ((v : ℕ) → v < variable_rows → get_or universals v false ≡ false)

-- Row v of the two tables is the level of v and whether v is universal, for every v up to the limit.
pub record Levelled (es : List ℕ) (levels : List ℕ) (universals : List Bool) : Type 0 where
  pub sizes : LevelRows levels universals
  pub level_is : (v : ℕ) → v ≤ most_variables → get_or levels v 0 ≡ level es v
  pub universal_is : (v : ℕ) → v ≤ most_variables → get_or universals v false ≡ is_universal es v

-- so by the blocks of a prefix
unfoldable pub free_level : List ℕ → ℕ
free_level es = free_level_of (blocks es)
