-- The text of a formula entry by entry, as the writer makes it: for tables that check accepts it is the text of Written (`text_qdimacs`, proofs/Blockwise).
use Rattle.std.specs.Prelude.{ℕ, suc, Bool, true, false, cond, List, [], ◌∷◌, ◌++◌, eqb, ℤ, nat_abs}
use Rattle.text_write.specs.Texts.{LF, SPACE}
use Rattle.text_write.specs.Numbers.{decimal}
use Rattle.text_write.specs.Written.{mark_word, literal_word, problem_line}

-- A space before each word of a line but the first, and LF after the closing 0.
unfoldable pub spaced : Bool → List ℕ → List ℕ
spaced true text = text
spaced false text = SPACE ∷ text

unfoldable pub ended : Bool → List ℕ → List ℕ
ended true text = LF ∷ text
ended false text = text

-- The lines of the prefix table and of the clause table, from the first entry of a line on, or from a later one.
unfoldable pub prefix_text : Bool → List ℕ → List ℕ
prefix_text first [] = []
prefix_text true (mark ∷ more) = mark_word mark ++ prefix_text false more
prefix_text false (entry ∷ more) = spaced false (decimal entry ++ ended (eqb entry 0) (prefix_text (eqb entry 0) more))

unfoldable pub clause_text : Bool → List ℤ → List ℕ
clause_text first [] = []
clause_text first (entry ∷ more) = spaced first (literal_word entry ++ ended (eqb (nat_abs entry) 0) (clause_text (eqb (nat_abs entry) 0) more))

-- How many clauses a clause table has: one for each 0.
unfoldable pub clause_count : List ℤ → ℕ
clause_count [] = 0
clause_count (entry ∷ more) = cond (eqb (nat_abs entry) 0) (suc (clause_count more)) (clause_count more)

-- The problem line, and then the two tables.
unfoldable pub text_by_entries : ℕ → List ℕ → List ℤ → List ℕ
text_by_entries n prefix clauses = problem_line n (clause_count clauses) ++ (prefix_text true prefix ++ clause_text true clauses)
