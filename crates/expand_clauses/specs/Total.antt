-- The literal total of an expanded formula, from the input alone (rule 12.4).
use Rattle.std.specs.Prelude.{ℕ, ◌+◌, ◌-◌, cond, List, [], ◌∷◌, eqb, ℤ, length}
use Rattle.terms.specs.Literals.{variable_of}
use Rattle.formula.specs.Meaning.{clauses, always_true}
use Rattle.expand_clauses.specs.Expansion.{has_x, has_member}

-- how many literals some clauses have
unfoldable pub literals : List (List ℤ) → ℕ
literals [] = 0
literals (clause ∷ later) = length clause + literals later

-- how many literals of a clause are x or its negation
unfoldable pub x_literals : ℕ → List ℤ → ℕ
x_literals x [] = 0
x_literals x (literal ∷ more) = cond (eqb (variable_of literal) x) 1 0 + x_literals x more

-- a clause not always true counts once without x or member, twice with a member but not x, and with x once less its x literals
unfoldable pub counts : ℕ → List ℕ → List ℤ → ℕ
counts x members clause =
    cond (always_true clause) 0
    (cond (has_x x clause) (length clause - x_literals x clause)
    (cond (has_member members clause) (length clause + length clause) (length clause)))

unfoldable pub total_of : ℕ → List ℕ → List (List ℤ) → ℕ
total_of x members [] = 0
total_of x members (clause ∷ later) = counts x members clause + total_of x members later

unfoldable pub literal_total : ℕ → List ℕ → List ℤ → ℕ
literal_total x members ls = total_of x members (clauses ls)
