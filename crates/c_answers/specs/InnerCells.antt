-- What the functions promise that lay answers out in the cells of a C caller: what an answer says, and in which cells it then stands.
use Rattle.std.specs.Prelude.{ℕ, ◌<◌, ◌≡◌, List}
use Rattle.std.specs.Borrow.{MutBor}
use denote.Triple.Both.{Both}
pub use Rattle.terms.specs.Says.{Said, gives, refuses, number_of, said_by, said, fault_number, entry_said}
use Rattle.terms.specs.declared.Tally.{Tally}
use Rattle.terms.specs.declared.Tallied.{Tallied}
use Rattle.c_answers.specs.Codes.{cells_of}

-- a number that a cell can hold
abbrev pub InCell : ℕ → Type 0
InCell number = number < 4294967296

-- What is given is within B, and the place of a refusal fits its cell.
abbrev pub Fits : {C : Type 0} → (C → Type 0) → Said C → Type 0
Fits B (gives cells) = B cells
Fits B (refuses number at) = InCell at

-- no bound, for cells whose numbers have 32 bits already
abbrev pub Any : {C : Type 0} → C → Type 0
Any cells = Unit {0}

-- What is returned is the number, which is 0 where it is accepted. Then the cells hold what is given, and `place` is kept; refused, the cells are kept, and
-- the place stands in its cell.
pub data Laid {C : Type 0} (said : Said C) (cells cells' : C) (place place' returned : ℕ) : Type 0 where
  given : {parts : C} → said ≡ gives parts → cells' ≡ parts → returned ≡ number_of said → place' ≡ place → Laid said cells cells' place place' returned
  placed : {number at : ℕ} → said ≡ refuses number at → cells' ≡ cells → returned ≡ number_of said → place' ≡ at
      → Laid said cells cells' place place' returned

-- a cell that a function may write, and the cells of a tally: as they were lent, and as they are left
abbrev pub Cell : Type 0
Cell = Both (MutBor ℕ) (MutBor ℕ)

abbrev pub TallyCells : Type 0
TallyCells = Both (MutBor (List ℕ)) (MutBor (List ℕ))

-- What is said stands in the cell of the place alone, or in one to four cells beside it.
abbrev pub LaidBy : {C : Type 0} → Said C → C → C → Cell → ℕ → Type 0
LaidBy said cells cells' place = Laid said cells cells' place.entry.now place.exit.now

abbrev pub NoneLaid : Said (Unit {0}) → Cell → ℕ → Type 0
NoneLaid said = LaidBy said tt tt

abbrev pub OneLaid : Said ℕ → Cell → Cell → ℕ → Type 0
OneLaid said a = LaidBy said a.entry.now a.exit.now

abbrev pub TwoLaid : Said (ℕ × ℕ) → Cell → Cell → Cell → ℕ → Type 0
TwoLaid said a b = LaidBy said (a.entry.now, b.entry.now) (a.exit.now, b.exit.now)

abbrev pub ThreeLaid : Said (ℕ × ℕ × ℕ) → Cell → Cell → Cell → Cell → ℕ → Type 0
ThreeLaid said a b c = LaidBy said (a.entry.now, b.entry.now, c.entry.now) (a.exit.now, b.exit.now, c.exit.now)

abbrev pub FourLaid : Said (ℕ × ℕ × ℕ × ℕ) → Cell → Cell → Cell → Cell → Cell → ℕ → Type 0
FourLaid said a b c d =
    LaidBy said (a.entry.now, b.entry.now, c.entry.now, d.entry.now) (a.exit.now, b.exit.now, c.exit.now, d.exit.now)

-- Accepted, the tally stands in its cells; refused, these are kept.
abbrev pub TallyLaid : Said ℕ → Tally → List ℕ → List ℕ → Type 0
TallyLaid (gives count) tally cells cells' = cells' ≡ cells_of tally
TallyLaid (refuses number at) tally cells cells' = cells' ≡ cells

-- build gives a count and the cells of the tally, and add those cells alone
abbrev pub built_said : Said ℕ → Tally → Said (ℕ × List ℕ)
built_said said tally = said_by (λ (count : ℕ). (count, cells_of tally)) said

abbrev pub added_said : Said (ℕ × List ℕ) → Said (List ℕ)
added_said = said_by (λ (parts : ℕ × List ℕ). parts.1)

-- what build and add told stands in the cells of the tally, and a count beside them
abbrev pub BuiltLaid : Tallied → TallyCells → Cell → Cell → ℕ → Type 0
BuiltLaid told cells count =
    LaidBy (built_said (said told.answer) told.tally)
    (count.entry.now, cells.entry.now) (count.exit.now, cells.exit.now)

abbrev pub AddedLaid : Tallied → TallyCells → Cell → ℕ → Type 0
AddedLaid told cells =
    LaidBy (added_said (built_said (said told.answer) told.tally)) cells.entry.now cells.exit.now
