-- Reduced clauses, and lists of clauses that differ in which of them are reduced and in their order (rule 15.1).
use Rattle.std.specs.Prelude.{ℕ, ◌≡◌, Bool, true, cond, not, ◌&&◌, ◌||◌, ◌⊎◌, ltb, ℤ}
use mathlib.Core.List.{List, [], ◌∷◌, Permᴰ}
use Rattle.terms.specs.Literals.{variable_of}
use Rattle.formula.specs.Meaning.{always_true, clauses}
use Rattle.forest_theory.specs.Reach.{Variables}

-- v is deeper than every existential literal of a clause, and so is every v where there is none
unfoldable pub deeper_than_all : Variables → List ℤ → ℕ → Bool
deeper_than_all X [] v = true
deeper_than_all X (literal ∷ more) v = (not (X.ex (variable_of literal)) || ltb (X.lev (variable_of literal)) (X.lev v)) && deeper_than_all X more v

-- a literal that reducing drops: universal, and deeper than every existential literal of the clause (in an accepted table the variable of a literal is
-- one of 1 to n, and so universal if it is not existential)
unfoldable pub reducible : Variables → List ℤ → ℤ → Bool
reducible X clause literal = not (X.ex (variable_of literal)) && deeper_than_all X clause (variable_of literal)

-- a list without the literals that a test tells
unfoldable pub dropped : (ℤ → Bool) → List ℤ → List ℤ
dropped test [] = []
dropped test (literal ∷ more) = cond (test literal) (dropped test more) (literal ∷ dropped test more)

-- a clause reduced: without these literals; one that is always true stays as it is
unfoldable pub reduced_clause : Variables → List ℤ → List ℤ
reduced_clause X clause = cond (always_true clause) clause (dropped (reducible X clause) clause)

-- ds has the clauses of cs one by one, each as it is or reduced
abbrev pub Reduces : Variables → List (List ℤ) → List (List ℤ) → Type 0
Reduces X [] [] = Unit {0}
Reduces X [] (d ∷ ds) = ⊥
Reduces X (c ∷ cs) [] = ⊥
Reduces X (c ∷ cs) (d ∷ ds) = ((d ≡ c) ⊎ (d ≡ reduced_clause X c)) × Reduces X cs ds

-- the clause table ls' has the clauses of ls, none, some or all of them reduced, in any order
pub record Reduction (X : Variables) (ls ls' : List ℤ) : Type 0 where
  pub in_place : List (List ℤ)
  pub reduces : Reduces X (clauses ls) in_place
  pub reordered : Permᴰ in_place (clauses ls')
