-- What the clause call returns (rule 7.3), and where a clause stands in the table.
use Rattle.std.specs.Prelude.{ℕ, zero, suc, ◌+◌, ◌*◌, ◌≡◌, List, [], ◌∷◌, length, get_or, ℤ}
use Rattle.std.specs.Borrow.{Bor}
use Rattle.terms.specs.Refusals.{FirstOf, NoneOf}
use Rattle.formula.specs.Causes.{clause_order}
use Rattle.formula.specs.Meaning.{clauses}

-- The entry with which a clause begins: the clauses before it stand in front, each with its 0.
unfoldable pub begin_of : List (List ℤ) → ℕ → ℕ
begin_of clauses zero = 0
begin_of [] (suc asked) = 0
begin_of (clause ∷ later) (suc asked) = length clause + 1 + begin_of later asked

-- A part of a lent table itself: it stands in the table's own memory, behind the entries before it, of four bytes each.
abbrev pub StandsIn : Bor (List ℤ) → ℕ → Bor (List ℤ) → Type 0
StandsIn table start part = part.ref_ptr ≡ (table.ref_ptr.0, table.ref_ptr.1 + 4 * start)

-- The clause, where nothing is refused, as that part of the lent table; and else an empty part.
pub data ClausePart (n : ℕ) (table : Bor (List ℤ)) (asked : ℕ) (part : Bor (List ℤ)) : Type 0 where
  accepted : NoneOf (clause_order n table.now asked) → part.now ≡ get_or (clauses table.now) asked []
      → StandsIn table (begin_of (clauses table.now) asked) part → ClausePart n table asked part
  refused : (number place : ℕ) → FirstOf (clause_order n table.now asked) number place → part.now ≡ [] → StandsIn table 0 part
      → ClausePart n table asked part
