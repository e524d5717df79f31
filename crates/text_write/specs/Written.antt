-- The text that is written for a formula (rule 9.4): the problem line, a line for each block and a line for each clause, with no
-- comments, single spaces and no stray ones.
use Rattle.std.specs.Prelude.{ℕ, suc, cond, eqb, ℤ, pos, negsuc, length}
use mathlib.Core.List.{List, [], ◌∷◌, ◌++◌, map, flatten}
use Rattle.formula.specs.Meaning.{blocks, clauses}
use Rattle.text_write.specs.Texts.{LF, SPACE, MINUS, ZERO, LETTER-A, LETTER-C, LETTER-E, LETTER-F, LETTER-N, LETTER-P}
use Rattle.text_write.specs.Numbers.{decimal}

-- The word of a mark, and of a literal.
unfoldable pub mark_word : ℕ → List ℕ
mark_word mark = cond (eqb mark 1) (LETTER-E ∷ []) (LETTER-A ∷ [])

unfoldable pub literal_word : ℤ → List ℕ
literal_word (pos v) = decimal v
literal_word (negsuc v) = MINUS ∷ decimal (suc v)

-- The line of these words and `0`: a space between two, and LF.
unfoldable pub closed_line : List (List ℕ) → List ℕ
closed_line [] = ZERO ∷ LF ∷ []
closed_line (word ∷ more) = word ++ (SPACE ∷ closed_line more)

-- The line of a block, which is its mark and then its variables, and of a clause.
unfoldable pub block_line : List ℕ → List ℕ
block_line [] = []
block_line (mark ∷ variables) = closed_line (mark_word mark ∷ map decimal variables)

unfoldable pub clause_line : List ℤ → List ℕ
clause_line literals = closed_line (map literal_word literals)

-- The problem line `p cnf n m`.
abbrev pub cnf_bytes : List ℕ
cnf_bytes = LETTER-P ∷ SPACE ∷ LETTER-C ∷ LETTER-N ∷ LETTER-F ∷ SPACE ∷ []

unfoldable pub problem_line : ℕ → ℕ → List ℕ
problem_line n m = cnf_bytes ++ (decimal n ++ (SPACE ∷ (decimal m ++ (LF ∷ []))))

-- The text of n, a prefix and a clause table.
unfoldable pub text_of : ℕ → List ℕ → List ℤ → List ℕ
text_of n prefix table = problem_line n (length (clauses table)) ++ (flatten (map block_line (blocks prefix)) ++ flatten (map clause_line (clauses table)))
