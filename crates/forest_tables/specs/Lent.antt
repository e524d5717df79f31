-- The rows of a forest as they are lent to a call (rule 3.1).
use Rattle.std.specs.Prelude.{List, ℕ}
use Rattle.std.specs.Borrow.{Bor, MutBor}
use denote.Triple.Both.{Both}
use Rattle.forest_theory.specs.Reach.{Variables}
use Rattle.forest_theory.specs.Tables.{Table, lent}
use Rattle.formula.specs.Lent.{Formula}
use Rattle.forest_tables.specs.Formula.{variables}

-- the class name of each variable, the parent of each class, and the count of each: row v - 1 for variable v
pub record Rows : Type 0 where
  pub classes : List ℕ
  pub parents : List ℕ
  pub counts : List ℕ

abbrev pub rows : List ℕ → List ℕ → List ℕ → Rows
rows classes parents counts = record { classes = classes; parents = parents; counts = counts }

-- the rows of a call's parameters, as they were passed: those that it reads, and those that it may write; and the latter as the call leaves them
abbrev pub rows_in : {C P N : Type 0} → Both (Bor (List ℕ)) C → Both (Bor (List ℕ)) P → Both (Bor (List ℕ)) N → Rows
rows_in classes parents counts = rows classes.entry.now parents.entry.now counts.entry.now

abbrev pub rows_lent : {C P N : Type 0} → Both (MutBor (List ℕ)) C → Both (MutBor (List ℕ)) P → Both (MutBor (List ℕ)) N → Rows
rows_lent classes parents counts = rows classes.entry.now parents.entry.now counts.entry.now

abbrev pub rows_out : {C P N : Type 0} → Both C (MutBor (List ℕ)) → Both P (MutBor (List ℕ)) → Both N (MutBor (List ℕ)) → Rows
rows_out classes parents counts = rows classes.exit.now parents.exit.now counts.exit.now

-- the variables of a formula, and the forest that the rows stand for, as the theory of connection takes them
abbrev pub variables_of : Formula → Variables
variables_of f = variables f.n f.prefix

abbrev pub forest_of : Formula → Rows → Table
forest_of f r = lent (variables_of f) r.classes r.parents
