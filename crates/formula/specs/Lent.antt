-- A formula as it is lent to a call (rule 7.1).
use Rattle.std.specs.Prelude.{ℕ, List, [], ℤ}
use Rattle.std.specs.Borrow.{Bor}
use denote.Triple.Both.{Both}

-- how many variables it has, its prefix and its clauses
pub record Formula : Type 0 where
  pub n : ℕ
  pub prefix : List ℕ
  pub clauses : List ℤ

abbrev pub formula_of : ℕ → List ℕ → List ℤ → Formula
formula_of n prefix clauses = record { n = n; prefix = prefix; clauses = clauses }

-- the formula of a call's parameters, as they were passed
abbrev pub formula_in : {P C : Type 0} → ℕ → Both (Bor (List ℕ)) P → Both (Bor (List ℤ)) C → Formula
formula_in n prefix clauses = formula_of n prefix.entry.now clauses.entry.now

-- so for a call that takes no clause table: a formula of no clauses
abbrev pub prefix_in : {P : Type 0} → ℕ → Both (Bor (List ℕ)) P → Formula
prefix_in n prefix = formula_of n prefix.entry.now []
