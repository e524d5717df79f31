-- Inner: where sets stand already in the table of the call for all sets, from which they are copied.
use Rattle.std.specs.Prelude.{ℕ, ◌+◌, ◌≤◌, ◌<◌, ◌≡◌, List, ◌≢◌, ◌⊎◌, length, get_or, set}
use Rattle.sets_subtrees.specs.InnerRuns.{having}

-- a list stands in a table from an entry on, before another
pub record Standing (out : List ℕ) (place : ℕ) (list : List ℕ) (end : ℕ) : Type 0 where
  pub before : place + length list ≤ end
  pub each : (i : ℕ) → i < length list → get_or out (place + i) 0 ≡ get_or list i 0

-- where there is a place for a top, 0 for none, the set of that top stands there
abbrev pub Placed : ℕ → List ℕ → List ℕ → List ℕ → ℕ → Type 0
Placed n tops places out end = (top : ℕ) → top ≤ n → get_or places top 0 ≢ 0 → Standing out (get_or places top 0) (having n tops top) end

-- the places are as they were, or that of a top is noted
abbrev pub Noting : List ℕ → ℕ → ℕ → List ℕ → Type 0
Noting before top place after = (after ≡ before) ⊎ (after ≡ set before top place)
