-- Inner: what the functions look for behind check to which the prefix is lent as the rule reads it. What a reader must believe is the order of the
-- call, in Promise.
use Rattle.std.specs.Prelude.{ℕ, List, [], ◌∷◌}
use Rattle.terms.specs.Refusals.{Causes}
use Rattle.formula.specs.Lent.{Formula}
use Rattle.forest.specs.Causes.{AskedCause}
use Rattle.expand.specs.Promise.{ResultTables, ResultCountCause, ResultLengthCause, ResultOutputCause}

-- what is looked for in the result: 1, 2, 14
abbrev pub result_order : Formula → ℕ → ResultTables → List Causes
result_order f x out = ResultCountCause f x ∷ ResultLengthCause f x ∷ ResultOutputCause f x out ∷ []

-- 13 for x, and then what is looked for in the result
abbrev pub behind_expand : Formula → ℕ → ResultTables → List Causes
behind_expand f x out = AskedCause f.n f.prefix x ∷ result_order f x out
