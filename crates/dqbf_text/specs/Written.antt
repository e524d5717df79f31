-- The text that is written for a formula with lists (rule 13.4): that of QDIMACS, with a line `d y x1 .. 0` for each list between the
-- lines of the blocks and those of the clauses.
use Rattle.std.specs.Prelude.{ℕ, ℤ, length}
use mathlib.Core.List.{List, [], ◌∷◌, ◌++◌, map, flatten}
use Rattle.formula.specs.Meaning.{blocks, clauses}
use Rattle.text_write.specs.Numbers.{decimal}
use Rattle.text_write.specs.Written.{closed_line, block_line, clause_line, problem_line}
use Rattle.dqbf_lists.specs.Lists.{lists}
use Rattle.dqbf_text.specs.Format.{LETTER-D}

-- The line of a list, which is its existential and then its universals.
unfoldable pub list_line : List ℕ → List ℕ
list_line list = closed_line ((LETTER-D ∷ []) ∷ map decimal list)

-- The text of n, a prefix, a clause table and a table of lists.
unfoldable pub listed_text_of : ℕ → List ℕ → List ℤ → List ℕ → List ℕ
listed_text_of n prefix table ds =
    problem_line n (length (clauses table))
    ++ (flatten (map block_line (blocks prefix)) ++ (flatten (map list_line (lists ds)) ++ flatten (map clause_line (clauses table))))
