-- Inner: what is looked for behind check by the function to which the prefix is lent as the rule reads it. What a reader must believe is the order of
-- the call, in Sets.
use Rattle.std.specs.Prelude.{ℕ, List, [], ◌∷◌}
use Rattle.terms.specs.Refusals.{Causes}
use Rattle.terms.specs.declared.Scheme.{Scheme}
use Rattle.formula.specs.Lent.{Formula}
use Rattle.forest_tables.specs.Lent.{Rows}
use Rattle.forest_tables.specs.Causes.{ForestCause}
use Rattle.sets.specs.Sets.{SetsOutputCause}

-- 12, 14
abbrev pub behind_sets : Scheme → Formula → Rows → List ℕ → List Causes
behind_sets scheme f r before = ForestCause f.n f.prefix r ∷ SetsOutputCause scheme f r before ∷ []
