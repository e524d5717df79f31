-- What the inner functions promise that look a variable up and write both tables. What a reader must believe is in Promise, and in Expansion and Total of
-- `expand_clauses`.
use Rattle.std.specs.Prelude.{ℕ, ◌≡◌, true, false, cond, List, [], ◌∷◌, ◌++◌, eqb, Option, None, Some}
use Rattle.terms.specs.Says.{counts_said, Answer}
use Rattle.terms.specs.Answers.{Settles}
use Rattle.terms.specs.Refusals.{Causes, At0}
use Rattle.terms.specs.declared.Counts.{Counts}
use Rattle.terms.specs.declared.Level.{Level}
use Rattle.formula.specs.Lent.{Formula, formula_of}
use Rattle.formula.specs.Meaning.{level}
use Rattle.forest_tables.specs.Formula.{universal}
use Rattle.expand_clauses.specs.InnerCopies.{expanded_prefix, expanded_clauses}
use Rattle.formula_rules.specs.InnerWriting.{closing}
use Rattle.expand.specs.Promise.{ResultTables, Long, Short, LeavesFormula}

-- the level of a universal; none for any other
abbrev pub UniversalLevel : ℕ → List ℕ → ℕ → Option Level → Type 0
UniversalLevel n es x None = universal n es x ≡ false
UniversalLevel n es x (Some place) = (universal n es x ≡ true) × (place.0 ≡ level es x)

-- what is written in front of a variable: where its block has not begun, the 0 that closes the block before, and its mark
unfoldable pub beginning : ℕ → ℕ → List ℕ
beginning mark last = cond (eqb mark last) [] (closing last ++ (mark ∷ []))

-- a formula with x expanded, of so many variables, by the copies that a table has
abbrev pub expanded_with : ℕ → ℕ → (ℕ → ℕ) → Formula → Formula
expanded_with count x copy f = formula_of count (expanded_prefix x copy f.prefix) (expanded_clauses x copy f.clauses)

-- what a formula that is to be written is refused for
abbrev pub write_order : ResultTables → Formula → List Causes
write_order out g = At0 2 (Long g) ∷ At0 14 (Short out g) ∷ []

-- A formula is written and counted, or it passes a limit or is longer than a table.
abbrev pub Fits : Formula → ResultTables → ResultTables → Answer Counts → Type 0
Fits g out out' answer =
    Settles (write_order out g) (λ (counts : ℕ × ℕ × ℕ). LeavesFormula out out' counts.0 counts.1 counts.2 g) (out' ≡ out) (counts_said answer)
