-- How C writes a scheme (rule 5.5), a tally (rule 4.3), and whether a file has sets (rule 10.5): each as numbers, as include/snowcoddle.h has them.
use Rattle.std.specs.Prelude.{ℕ, Bool, cond, List, [], ◌∷◌, eqb, get_or}
use Rattle.terms.specs.declared.Scheme.{Scheme}
use Rattle.terms.specs.declared.Scheme.TheVariants.{Standard, Strict}
use Rattle.terms.specs.declared.Tally.{Tally}

-- the scheme that a number asks for: 2 the strict one, every other number the standard one
unfoldable pub scheme_of : ℕ → Scheme
scheme_of number = cond (eqb number 2) Strict Standard

-- the three cells of a tally, in this order, and the tally that such cells hold
abbrev pub cells_of : Tally → List ℕ
cells_of tally = tally.clauses ∷ tally.merges ∷ tally.classes ∷ []

abbrev pub tally_in : List ℕ → Tally
tally_in cells = record { clauses = get_or cells 0 0; merges = get_or cells 1 0; classes = get_or cells 2 0 }

-- the number that tells of sets: 1 where they are, else 0
unfoldable pub tells_sets : Bool → ℕ
tells_sets there = cond there 1 0
