-- Inner: what the functions look for behind check to which the prefix is lent as the rule reads it. What a reader must believe is the order of the
-- call, in Causes.
use Rattle.std.specs.Prelude.{ℕ, List, [], ◌∷◌}
use Rattle.terms.specs.Refusals.{Causes}
use Rattle.formula.specs.Lent.{Formula}
use Rattle.forest_tables.specs.Lent.{variables_of}
use Rattle.path_check.specs.Causes.{MisnamedCause, PathCause}

-- 13 for x, y and every clause number, then 24
abbrev pub pair_order : Formula → ℕ → ℕ → List ℕ → List Causes
pair_order f x y path = MisnamedCause f x y path ∷ PathCause (variables_of f) f.clauses x y path ∷ []
