-- A lent formula as the theory of connection takes it: its variables, the joins of its clauses (rule 1.7, rule 2.1), and those of a variable by its
-- sign (rule 5.2).
use Rattle.std.specs.Prelude.{ℕ, Bool, true, false, ◌&&◌, leb, ℤ, pos, neg_ℤ}
use mathlib.Core.List.{List, map, Memᴰ}
use Rattle.formula.specs.Meaning.{level_of, existential_of, level, is_universal, is_existential, clauses, connected}
use Rattle.forest_theory.specs.Reach.{Variables, Joined}

-- the variables of a formula whose prefix has these blocks: how many, the level of each, and which are existential
abbrev pub variables_in : ℕ → List (List ℕ) → Variables
variables_in n bs = record { count = n; lev = level_of bs; ex = existential_of n bs }

-- so by the blocks of a prefix
abbrev pub variables : ℕ → List ℕ → Variables
variables n es = record { count = n; lev = level es; ex = is_existential n es }

-- a universal variable: one of 1 to n, in a block with mark 2
unfoldable pub universal : ℕ → List ℕ → ℕ → Bool
universal n es x = leb 1 x && leb x n && is_universal es x

-- the lists of variables that connect: those of every clause, in either sign, and none of a clause that is always true
unfoldable pub joined : List ℤ → List (List ℕ)
joined ls = map connected (clauses ls)

-- two variables share a clause that connects
abbrev pub Shares : List ℤ → ℕ → ℕ → Type 0
Shares ls = Joined (joined ls)

-- the literal of a variable with a sign: the variable itself, or its negation
unfoldable pub signed : Bool → ℕ → ℤ
signed true x = pos x
signed false x = neg_ℤ (pos x)

-- some clause that connects y has the literal of x with the sign
pub record SharesBy (ls : List ℤ) (sign : Bool) (x y : ℕ) : Type 0 where
  pub clause : List ℤ
  pub listed : Memᴰ clause (clauses ls)
  pub literal : Memᴰ (signed sign x) clause
  pub connects : Memᴰ y (connected clause)
