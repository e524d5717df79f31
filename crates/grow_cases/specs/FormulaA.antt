-- Formula A of rule 17.1, as it is lent: n 9, blocks e 1 2, a 3, e 4 5, a 6, e 7 8 9, clauses {3 4 7} {-4 8} {6 9} {5 9} {1 5}; and what build and
-- add leave of it.
use Rattle.std.specs.Prelude.{ℕ, List, [], ◌∷◌, ℤ, pos, negsuc, set}
use Rattle.terms.specs.declared.Tally.{Tally}
use Rattle.formula.specs.Lent.{Formula, formula_of}
use Rattle.forest_tables.specs.Lent.{rows}
use Rattle.grow.specs.Grown.{Standing, standing}

abbrev pub prefix_a : List ℕ
prefix_a = 1 ∷ 1 ∷ 2 ∷ 0 ∷ 2 ∷ 3 ∷ 0 ∷ 1 ∷ 4 ∷ 5 ∷ 0 ∷ 2 ∷ 6 ∷ 0 ∷ 1 ∷ 7 ∷ 8 ∷ 9 ∷ 0 ∷ []

abbrev pub clauses_a : List ℤ
clauses_a =
    pos 3 ∷ pos 4 ∷ pos 7 ∷ pos 0 ∷ negsuc 3 ∷ pos 8 ∷ pos 0 ∷ pos 6 ∷ pos 9 ∷ pos 0 ∷ pos 5 ∷ pos 9 ∷ pos 0 ∷ pos 1 ∷ pos 5 ∷ pos 0 ∷ []

-- the formula, also with other clauses
abbrev pub with_clauses : List ℤ → Formula
with_clauses ls = formula_of 9 prefix_a ls

-- P1: the class names of 1 to 9
abbrev pub classes_a : List ℕ
classes_a = 1 ∷ 2 ∷ 0 ∷ 4 ∷ 5 ∷ 0 ∷ 7 ∷ 8 ∷ 9 ∷ []

-- P2: the parents of 1 to 9
abbrev pub parents_a : List ℕ
parents_a = 0 ∷ 0 ∷ 0 ∷ 0 ∷ 1 ∷ 0 ∷ 4 ∷ 4 ∷ 5 ∷ []

-- the counts of 1 to 9; and a tally by its three numbers
abbrev pub counts_a : List ℕ
counts_a = 3 ∷ 1 ∷ 0 ∷ 3 ∷ 2 ∷ 0 ∷ 1 ∷ 1 ∷ 1 ∷ []

abbrev pub tally : ℕ → ℕ → ℕ → Tally
tally clauses merges classes = record { clauses = clauses; merges = merges; classes = classes }

-- All that build leaves of A: five clauses are taken, none merges two existentials, and each of the seven names its class.
abbrev pub stand_a : Standing
stand_a = standing (rows classes_a parents_a counts_a) (tally 5 0 7)

-- P5: the same with {7 -9} added
abbrev pub stand79 : Standing
stand79 =
    standing (rows (1 ∷ 2 ∷ 0 ∷ 4 ∷ 4 ∷ 0 ∷ 7 ∷ 8 ∷ 7 ∷ []) (0 ∷ 0 ∷ 0 ∷ 1 ∷ 0 ∷ 0 ∷ 4 ∷ 4 ∷ 0 ∷ []) (6 ∷ 1 ∷ 0 ∷ 5 ∷ 0 ∷ 0 ∷ 2 ∷ 1 ∷ 0 ∷ [])) (tally 6 2 5)

-- P8: with {1 -2} added, of classes and parents only row 2 changes, which has index 1: class 1; the counts in rows 1 and 2 go from 3 and 1 to 4 and 0
abbrev pub stand12 : Standing
stand12 = standing (rows (set classes_a 1 1) parents_a (set (set counts_a 0 4) 1 0)) (tally 6 1 6)

-- P9: with the empty clause added, no row changes
abbrev pub stand_none : Standing
stand_none = standing (rows classes_a parents_a counts_a) (tally 6 0 7)

-- the clauses added, without a closing 0 (negsuc k is -(k + 1))
abbrev pub clause79 : List ℤ
clause79 = pos 7 ∷ negsuc 8 ∷ []

abbrev pub clause58 : List ℤ
clause58 = pos 5 ∷ pos 8 ∷ []

abbrev pub clause12 : List ℤ
clause12 = pos 1 ∷ negsuc 1 ∷ []
