-- Inner: the tally of a list, and what an add makes of one, by how many class names the tables have before and after, as the code counts them. The laws of
-- `Taking` tie both to what is promised, each way.
use Rattle.std.specs.Prelude.{ℕ, ◌+◌, ◌-◌, ◌≡◌, List, ℤ, length}
use Rattle.forest_theory.specs.Reach.{Variables}
use Rattle.grow.specs.Grown.{Standing, class_names, existentials}
use Rattle.formula.specs.Meaning.{clauses}
use Rattle.forest_theory.specs.Reach.{Variables}

-- All clauses are taken, the classes left are the class names, and these and the merges sum to the existentials.
pub record SumsUp (X : Variables) (taken : ℕ) (s : Standing) : Type 0 where
  pub clauses : s.tally.clauses ≡ taken
  pub classes : s.tally.classes ≡ class_names X s
  pub merges : s.tally.merges + s.tally.classes ≡ existentials X

-- One clause more is taken, merges grow by what the number of class names falls by, and the classes left are the class names.
pub record Fell (X : Variables) (s s' : Standing) : Type 0 where
  pub clauses : s'.tally.clauses ≡ s.tally.clauses + 1
  pub merges : s'.tally.merges ≡ s.tally.merges + (class_names X s - class_names X s')
  pub classes : s'.tally.classes ≡ class_names X s'

-- how many clauses a table holds, always-true and empty ones with them
abbrev pub many : List ℤ → ℕ
many ls = length (clauses ls)
