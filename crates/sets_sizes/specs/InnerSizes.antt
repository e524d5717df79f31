-- Inner: how many variables flagged tops have, as it is summed up, and the sizes of the sets of all universals.
use Rattle.std.specs.Prelude.{ℕ, ◌≤◌, ◌<◌, ◌≡◌, Bool, true, false, List, [], ◌⊎◌, ◌↔◌, ℤ, length, get_or, set}
use Rattle.terms.specs.InnerPairs.{high_of}
use Rattle.terms.specs.declared.Scheme.{Scheme}
use Rattle.formula.specs.Lent.{formula_of}
use Rattle.forest_theory.specs.Counts.{Numbered}
use Rattle.forest_tables.specs.Formula.{universal}
use Rattle.forest_tables.specs.Lent.{rows}
use Rattle.forest_members.specs.declared.Asked.TheVariants.{Set}
use Rattle.forest_members.specs.InnerPicked.{pick, picked}
use Rattle.forest.specs.Answers.{MembersBy}
use Rattle.sets_occurrences.specs.InnerThreads.{EnteredBy}
use Rattle.sets_subtrees.specs.InnerRuns.{having}

-- how many variables have a flagged top
abbrev pub under : ℕ → List ℕ → List Bool → ℕ
under n tops flags = length (picked (pick Set n flags tops) n)

-- the row of every top has how many variables have it
abbrev pub Weighed : ℕ → List ℕ → List ℕ → Type 0
Weighed n tops lead = (top : ℕ) → top ≤ n → high_of (get_or lead top 0) ≡ length (having n tops top)

-- of the flags those are cleared of which P holds
pub record Drained (P : ℕ → Type 0) (old new : List Bool) : Type 0 where
  pub size : length new ≡ length old
  pub off : (e : ℕ) → e < length old → (get_or new e false ≡ false) ↔ ((get_or old e false ≡ false) ⊎ P e)

-- a flagged top counts what its row has, and its flag is cleared; any other counts nothing
pub data DrainedOne (lead : List ℕ) (top : ℕ) (old new : List Bool) (count : ℕ) : Type 0 where
  flagged : get_or old top false ≡ true → new ≡ set old top false → count ≡ high_of (get_or lead top 0) → DrainedOne lead top old new count
  bare : get_or old top false ≡ false → new ≡ old → count ≡ 0 → DrainedOne lead top old new count

-- a number is the size of the set of x by a scheme, told by the flags of its entry points
abbrev pub TellsSize : Scheme → ℕ → List ℕ → List ℤ → ℕ → ℕ → Type 0
TellsSize scheme n tops ls x size = (flags : List Bool) × EnteredBy scheme n tops ls x flags × (size ≡ under n tops flags)

-- the row of a universal has the size of its set, and that of any other variable 0
abbrev pub SizeRow : Bool → (ℕ → Type 0) → ℕ → Type 0
SizeRow true P size = Numbered P size
SizeRow false P size = size ≡ 0

-- so of all variables up to m, by a scheme; what comes past m has 0
abbrev pub Sizes : Scheme → ℕ → List ℕ → List ℤ → List ℕ → List ℕ → List ℕ → ℕ → Type 0
Sizes scheme n es ls classes parents sizes m =
    ((x : ℕ) → x ≤ m → SizeRow (universal n es x) (MembersBy scheme (formula_of n es ls) (rows classes parents []) x) (get_or sizes x 0))
    × ((x : ℕ) → m < x → get_or sizes x 0 ≡ 0)
