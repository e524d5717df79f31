-- Demand 3. Adding a clause to a formula's forest gives, row by row, with the counts and the tally, the forest built afresh with that clause last. A
-- universal that is not in the clause and whose old standard set shares no variable with it keeps its set and its entry points, by both schemes.
use Rattle.std.specs.Prelude.{ℕ, ◌≤◌, ◌≡◌, List, ℤ, length, Ok}
use Rattle.terms.specs.Limits.{clause_entries}
use Rattle.terms.specs.Refusals.{None}
use Rattle.terms.specs.Says.{Answer}
use Rattle.terms.specs.declared.Scheme.{Scheme}
use Rattle.formula.specs.Lent.{Formula, formula_of}
use Rattle.formula.specs.Meaning.{connected}
use Rattle.formula_rules.specs.Rules.{read_by}
use Rattle.forest_theory.specs.Growth.{LeavesAlone}
use Rattle.forest_theory.specs.Tables.{row}
use Rattle.forest_tables.specs.Formula.{Shares}
use Rattle.forest_tables.specs.Lent.{variables_of}
use Rattle.forest.specs.Answers.{EntriesListed, SetListed, Sized}
use Rattle.grow_refusals.specs.Admitted.{AddedCause}
use Rattle.grow.specs.Grown.{Standing, Builds, Adds, with_last}
use Rattle.demands.specs.Words.{Built, IsUniversal}

-- the formula with a clause put last
abbrev pub longer : Formula → List ℤ → Formula
longer f clause = formula_of f.n f.prefix (with_last f.clauses clause)

-- A clause that may be put last: its literals are of the variables 1 to n, and the longer list is within the limits.
pub record MayBeAdded (f : Formula) (clause : List ℤ) : Type 0 where
  pub literals : None (AddedCause f.n clause)
  pub short : length (with_last f.clauses clause) ≤ clause_entries

-- s' is what add left of s, which build left of the formula.
pub record AddedTo (rule : ℕ) (f : Formula) (clause : List ℤ) (s s' : Standing) : Type 0 where
  pub built : Built rule f s
  pub may : MayBeAdded f clause
  pub answer : Answer ℕ
  pub adds : Adds rule f.n f.prefix s clause s' answer

-- Add is not refused there.
abbrev pub AddingIsTaken : Type 0
AddingIsTaken = (rule : ℕ) (f : Formula) (clause : List ℤ) (s s' : Standing) (added : AddedTo rule f clause s s') → added.answer ≡ Ok f.n

-- Where both begin with the same tables, add after build leaves all that build leaves of the longer list: every row of every table, and the tally.
abbrev pub AddingIsBuilding : Type 0
AddingIsBuilding =
    (rule : ℕ) (f : Formula) (clause : List ℤ) (s s' s'' : Standing) (answer : Answer ℕ) (added : AddedTo rule f clause s s')
    → Builds rule (longer f clause) added.built.lent s'' answer → (answer ≡ Ok f.n) × (s' ≡ s'')

-- Two that stand for n variables have the same rows for each, class name, parent and count, and the same tally.
pub record SameStanding (n : ℕ) (s s' : Standing) : Type 0 where
  pub classes : (v : ℕ) → row n s.rows.classes v ≡ row n s'.rows.classes v
  pub parents : (v : ℕ) → row n s.rows.parents v ≡ row n s'.rows.parents v
  pub counts : (v : ℕ) → row n s.rows.counts v ≡ row n s'.rows.counts v
  pub tally : s.tally ≡ s'.tally

-- Whatever tables build was lent for the longer list, it leaves what add left.
abbrev pub AddingIsBuildingAnywhere : Type 0
AddingIsBuildingAnywhere =
    (rule : ℕ) (f : Formula) (clause : List ℤ) (s s' s'' : Standing) → AddedTo rule f clause s s' → Built rule (longer f clause) s'' → SameStanding f.n s' s''

-- x is a universal that is not in the clause, and whose old standard set shares no variable with it. (A clause that is always true connects nothing.)
pub record LeftAlone (rule : ℕ) (f : Formula) (clause : List ℤ) (x : ℕ) : Type 0 where
  pub universal : IsUniversal rule f x
  pub alone : LeavesAlone (variables_of (read_by rule f)) (Shares f.clauses) (connected clause) x

-- Such an x keeps its set: before and after, the set call answers and writes the same, into the same table.
abbrev pub KeepsSet : Type 0
KeepsSet =
    (rule : ℕ) (scheme : Scheme) (f : Formula) (clause : List ℤ) (s s' : Standing) (x : ℕ) (before after after' : List ℕ) (answer answer' : Answer ℕ)
    → AddedTo rule f clause s s' → LeftAlone rule f clause x
    → SetListed rule scheme f s.rows x before after answer → SetListed rule scheme (longer f clause) s'.rows x before after' answer'
    → (answer ≡ answer') × (after ≡ after')

-- And its entry points,
abbrev pub KeepsEntries : Type 0
KeepsEntries =
    (rule : ℕ) (scheme : Scheme) (f : Formula) (clause : List ℤ) (s s' : Standing) (x : ℕ) (before after after' : List ℕ) (answer answer' : Answer ℕ)
    → AddedTo rule f clause s s' → LeftAlone rule f clause x
    → EntriesListed rule scheme f s.rows x before after answer → EntriesListed rule scheme (longer f clause) s'.rows x before after' answer'
    → (answer ≡ answer') × (after ≡ after')

-- and the size of its set.
abbrev pub KeepsSize : Type 0
KeepsSize =
    (rule : ℕ) (scheme : Scheme) (f : Formula) (clause : List ℤ) (s s' : Standing) (x : ℕ) (answer answer' : Answer ℕ)
    → AddedTo rule f clause s s' → LeftAlone rule f clause x
    → Sized rule scheme f s.rows x answer → Sized rule scheme (longer f clause) s'.rows x answer' → answer ≡ answer'

-- Demand 3, whole.
pub record Demand3 : Type 0 where
  pub taken : AddingIsTaken
  pub building : AddingIsBuilding
  pub anywhere : AddingIsBuildingAnywhere
  pub set : KeepsSet
  pub entries : KeepsEntries
  pub size : KeepsSize
