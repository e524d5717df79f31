-- Inner: what is looked for behind the prefix, or behind check, by functions to which the prefix is lent as the rule reads it. What a reader must
-- believe are the orders of the calls, in Causes.
use Rattle.std.specs.Prelude.{ℕ, List, [], ◌∷◌}
use Rattle.terms.specs.Refusals.{Causes}
use Rattle.forest_tables.specs.Lent.{Rows}
use Rattle.forest_tables.specs.Causes.{ForestCause}
use Rattle.forest.specs.Causes.{AskedCause, PairCause}

-- by the entry point of x for y: 12, 13
abbrev pub behind_entry : ℕ → List ℕ → Rows → ℕ → ℕ → List Causes
behind_entry n es r x y = ForestCause n es r ∷ PairCause n es x y ∷ []

-- and by a call that asks for x: 12, 13
abbrev pub behind_check : ℕ → List ℕ → Rows → ℕ → List Causes
behind_check n es r x = ForestCause n es r ∷ AskedCause n es x ∷ []
