-- Inner: what is looked for behind the prefix by the function to which that is lent as the rule reads it. What a reader must believe is the order of
-- the call, in Grown.
use Rattle.std.specs.Prelude.{ℕ, List, [], ◌∷◌, ℤ}
use Rattle.terms.specs.Refusals.{Causes}
use Rattle.forest_tables.specs.Causes.{ForestCause}
use Rattle.forest_tables.specs.Formula.{variables}
use Rattle.grow_refusals.specs.Admitted.{AddedCause}
use Rattle.grow.specs.Grown.{Standing, TallyCause}

-- the clause's literals from the left, 12, 18
abbrev pub behind_add : ℕ → List ℕ → Standing → List ℤ → List Causes
behind_add n es s ls = AddedCause n ls ∷ ForestCause n es s.rows ∷ TallyCause (variables n es) s ∷ []
