-- To be believed: counts, that is, how many variables a class has with all classes below it, their sum, and how many classes there are (rule 4.1,
-- rule 4.2, rule 4.3).
use Rattle.std.specs.Prelude.{ℕ, zero, suc, ◌+◌, ◌≡◌, Bool, true, cond, ◌&&◌, List, [], ◌∷◌, length, eqb}
use Rattle.forest_theory.specs.Reach.{Variables}
use Rattle.forest_theory.specs.Tables.{Table, ClassName, Above}
use Rattle.terms.specs.Listed.{Listed}

-- k is how many numbers there are of which P holds.
pub record Numbered (P : ℕ → Type 0) (k : ℕ) : Type 0 where
  pub list : List ℕ
  pub listed : Listed P list
  pub size : k ≡ length list

-- v is a variable in class c or in a class below it.
pub record Within (X : Variables) (W : Table) (c v : ℕ) : Type 0 where
  pub existential : X.ex v ≡ true
  pub rises : ℕ
  pub above : Above W c (W.cls v) rises

-- A count that is right: for a class name the number of variables in it and in all classes below; 0 elsewhere.
pub record CountRow (X : Variables) (W : Table) (counts : ℕ → ℕ) (v : ℕ) : Type 0 where
  pub class : ClassName X W v → Numbered (Within X W v) (counts v)
  pub none : (ClassName X W v → ⊥) → counts v ≡ 0

-- Every count is right.
pub record Counted (X : Variables) (W : Table) (counts : ℕ → ℕ) : Type 0 where
  pub right : (v : ℕ) → CountRow X W counts v

-- The sum of f over a list.
unfoldable pub sum : (ℕ → ℕ) → List ℕ → ℕ
sum f [] = 0
sum f (a ∷ list) = f a + sum f list

-- How many of 1 to n pass a test.
unfoldable pub how_many : (ℕ → Bool) → ℕ → ℕ
how_many f zero = 0
how_many f (suc m) = how_many f m + cond (f (suc m)) 1 0

-- The test of a class name.
unfoldable pub names_itself : Variables → Table → ℕ → Bool
names_itself X W v = X.ex v && eqb (W.cls v) v
