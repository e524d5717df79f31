-- Inner: the runs of tops, that is, the variables of one top, each linked to the next higher of the same.
use Rattle.std.specs.Prelude.{ℕ, zero, suc, ◌≤◌, ◌<◌, ◌≡◌, Bool, true, false, List, [], ◌∷◌, ◌≢◌, length, get_or, set, replicate}
use Rattle.terms.specs.Limits.{most_variables}
use Rattle.terms.specs.InnerLimits.{variable_rows}
use Rattle.terms.specs.InnerPairs.{low_of, high_of}
use Rattle.forest_members.specs.declared.Asked.TheVariants.{Set}
use Rattle.forest_theory.specs.Tables.{row, lent}
use Rattle.forest_tables.specs.Formula.{variables}
use Rattle.forest_members.specs.InnerPicked.{pick, picked}
use Rattle.forest_climb.specs.InnerSearch.{Known, TopsOver}

-- the table leads from v over the numbers of the list, from each to the next, and ends with 0
abbrev pub Run : List ℕ → ℕ → List ℕ → Type 0
Run after v [] = v ≡ 0
Run after v (w ∷ rest) = (v ≡ w) × (w ≢ 0) × (w < length after) × Run after (get_or after w 0) rest

-- a table of flags in which only that of a top is set, and none for 0
unfoldable pub only : ℕ → List Bool
only zero = replicate variable_rows false
only (suc top) = set (replicate variable_rows false) (suc top) true

-- the variables that have this top
abbrev pub having : ℕ → List ℕ → ℕ → List ℕ
having n tops top = picked (pick Set n (only top) tops) n

-- the two numbers in a row of `lead`: where a run begins, and how many numbers it has
abbrev pub Leads : List ℕ → ℕ → List ℕ → Type 0
Leads after lead list = Run after (low_of lead) list × (high_of lead ≡ length list)

-- every top is one of the variables
abbrev pub Within : ℕ → List ℕ → Type 0
Within n tops = (v : ℕ) → row n tops v ≤ n

-- the row of every top leads to the variables that have it
abbrev pub Led : ℕ → List ℕ → List ℕ → List ℕ → Type 0
Led n tops lead after = (top : ℕ) → top ≤ n → Leads after (get_or lead top 0) (having n tops top)

-- the tops over a floor, and their runs, in tables of their lengths; and where the blocks deeper than that floor begin
pub record Floored (n : ℕ) (es classes parents : List ℕ) (floor place from : ℕ) (tops lead after : List ℕ) : Type 0 where
  pub known : Known es floor place
  pub over : TopsOver (variables n es) (lent (variables n es) classes parents) floor from tops
  pub within : Within n tops
  pub led : Led n tops lead after
  pub rows : length tops ≡ most_variables
  pub heads : length lead ≡ variable_rows
  pub links : length after ≡ variable_rows
