-- Paths of clause numbers that another tool gives for a pair (x, y), and when one is acceptable (rule 11.1).
use Rattle.std.specs.Prelude.{ℕ, suc, ◌<◌, ◌-◌, ◌≡◌, false, ℤ, length, get_or}
use mathlib.Core.List.{List, [], map, Memᴰ}
use Rattle.terms.specs.Literals.{variable_of}
use Rattle.formula.specs.Tables.{at}
use Rattle.formula.specs.Meaning.{clauses, always_true}
use Rattle.forest_theory.specs.Reach.{Variables, Deeper}

-- the clause with a number, which has no literals past the count
abbrev pub clause_at : List ℤ → ℕ → List ℤ
clause_at ls k = get_or (clauses ls) k []

-- the clause with the number k has the variable v, in either sign
abbrev pub HasVariable : List ℤ → ℕ → ℕ → Type 0
HasVariable ls k v = Memᴰ v (map variable_of (clause_at ls k))

-- the clauses with the numbers k and l share an existential deeper than x
pub record Shared (X : Variables) (ls : List ℤ) (x k l : ℕ) : Type 0 where
  pub variable : ℕ
  pub deep : Deeper X x variable
  pub left : HasVariable ls k variable
  pub right : HasVariable ls l variable

-- A path that is acceptable for the pair (x, y): the first clause has x, the last has y, neighbours share an existential deeper than x, and no clause
-- is always true.
pub record Acceptable (X : Variables) (ls : List ℤ) (x y : ℕ) (path : List ℕ) : Type 0 where
  pub some : 0 < length path
  pub first : HasVariable ls (at path 0) x
  pub last : HasVariable ls (at path (length path - 1)) y
  pub neighbours : (i : ℕ) → suc i < length path → Shared X ls x (at path i) (at path (suc i))
  pub not-true : (i : ℕ) → i < length path → always_true (clause_at ls (at path i)) ≡ false
