-- What the answers say that give a formula, as cells of 32 bits have it: its variable count, the counts of the entries of its tables, and whether a
-- file has sets; and which of these numbers fit.
use Rattle.terms.specs.Says.{Answer}
use Rattle.terms.specs.declared.Loaded.{Loaded}
use Rattle.std.specs.Prelude.{ℕ, Bool}
pub use Rattle.terms.specs.Says.{counts_said, listed_said, loaded_said}
use Rattle.c_answers.specs.Codes.{tells_sets}
use Rattle.c_answers.specs.InnerCells.{Said, said_by, InCell}

-- a file that was read, with whether sets were there as a cell has it
abbrev pub loaded_cells : Answer Loaded → Said (ℕ × ℕ × ℕ × ℕ)
loaded_cells answer = said_by (λ (held : ℕ × ℕ × ℕ × Bool). (held.0, held.1, held.2, tells_sets held.3)) (loaded_said answer)

-- the counts of two tables, of three, and of the two of a file
abbrev pub TwoInCells : ℕ × ℕ × ℕ → Type 0
TwoInCells cells = InCell cells.1 × InCell cells.2

abbrev pub ThreeInCells : ℕ × ℕ × ℕ × ℕ → Type 0
ThreeInCells cells = InCell cells.1 × InCell cells.2 × InCell cells.3

abbrev pub LoadedInCells : ℕ × ℕ × ℕ × ℕ → Type 0
LoadedInCells cells = InCell cells.1 × InCell cells.2
