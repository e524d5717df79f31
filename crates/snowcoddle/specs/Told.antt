-- What a call tells C: the number that it returns, and each cell and table afterwards (demand 1, rule 7.5; include/snowcoddle.h, "What a call gives").
use Rattle.std.specs.Prelude.{ℕ, ◌≡◌, List, [], ℤ, length, get_or}
use Rattle.terms.specs.Refusals.{Causes, FirstOf, NoneOf}
use Rattle.formula.specs.Meaning.{clauses}
use Rattle.formula.specs.Clause.{begin_of}
use Rattle.terms.specs.declared.Tally.{Tally}
use Rattle.forest_tables.specs.Lent.{Rows}
use Rattle.grow.specs.Grown.{Standing, standing}
use Rattle.c_answers.specs.Codes.{cells_of}

-- A call returns 0 where it accepts: then `given` holds of what it wrote, and the cell `place` is as it was.
-- Else it returns the number of the first cause in its order, whose place is in the cell `place`, and all else is `kept`.
pub data Told (order : List Causes) (given kept : Type 0) (returned place place' : ℕ) : Type 0 where
  accepted : NoneOf order → given → returned ≡ 0 → place' ≡ place → Told order given kept returned place place'
  refused : FirstOf order returned place' → kept → Told order given kept returned place place'

-- where the clause asked for stands (rule 7.3): its first entry, and the number of its literals
abbrev pub Clause : List ℤ → ℕ → ℕ → ℕ → Type 0
Clause ls asked start len = (start ≡ begin_of (clauses ls) asked) × (len ≡ length (get_or (clauses ls) asked []))

-- forest tables and a tally afterwards, of which S holds, with the tally in its cells
abbrev pub Left : (Standing → Type 0) → Rows → List ℕ → Type 0
Left S r cells' = (tally : Tally) × S (standing r tally) × (cells' ≡ cells_of tally)
