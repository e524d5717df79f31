-- The causes of refusal 13 for calls that read a forest, as the table of rule 8.1 has them, and the orders of these calls (rule 8.2). What is looked
-- for behind the prefix is looked for in the formula as the rule reads it.
use Rattle.std.specs.Prelude.{ℕ, ◌≤◌, ◌≡◌, false, List, [], ◌∷◌, ◌⊎◌, length}
use Rattle.terms.specs.Answers.{TooLong}
use Rattle.terms.specs.Refusals.{Causes, At0}
use Rattle.formula.specs.Causes.{VariableCount, LengthCause, ClauseCause}
use Rattle.formula.specs.Lent.{Formula}
use Rattle.formula.specs.Meaning.{level, is_existential}
use Rattle.formula_rules.specs.Rules.{read_as, RuleCause, PrefixCauseBy}
use Rattle.forest_tables.specs.Formula.{universal}
use Rattle.forest_tables.specs.Lent.{Rows}
use Rattle.forest_tables.specs.Causes.{ForestCause}

-- 13: x not universal
abbrev pub NotUniversal : ℕ → List ℕ → ℕ → Type 0
NotUniversal n es x = universal n es x ≡ false

-- 13: y not existential and deeper than x
abbrev pub NotDeeper : ℕ → List ℕ → ℕ → ℕ → Type 0
NotDeeper n es x y = (is_existential n es y ≡ false) ⊎ (level es y ≤ level es x)

-- 13 of a call that asks for x, and of one that asks for x and y
abbrev pub AskedCause : ℕ → List ℕ → ℕ → Causes
AskedCause n es x = At0 13 (NotUniversal n es x)

abbrev pub PairCause : ℕ → List ℕ → ℕ → ℕ → Causes
PairCause n es x y = At0 13 (NotUniversal n es x ⊎ NotDeeper n es x y)

-- 14: the output is shorter than the list of the numbers of which P holds
abbrev pub OutputCause : (ℕ → Type 0) → List ℕ → Causes
OutputCause P before = At0 14 (TooLong P before)

-- the order of the entry point of x for y, which takes no clauses: 23, 1, 2, prefix from the left, 12, 13
abbrev pub entry_order : ℕ → Formula → Rows → ℕ → ℕ → List Causes
entry_order rule f r x y =
    RuleCause rule ∷ VariableCount f.n ∷ LengthCause f.prefix 0 ∷ PrefixCauseBy rule f.n f.prefix
    ∷ ForestCause f.n (read_as rule f.prefix) r ∷ PairCause f.n (read_as rule f.prefix) x y ∷ []

-- the order of the size of the set of x: 23, 1, 2, prefix from the left, clause literals from the left, 12, 13
abbrev pub ask_order : ℕ → Formula → Rows → ℕ → List Causes
ask_order rule f r x =
    RuleCause rule ∷ VariableCount f.n ∷ LengthCause f.prefix (length f.clauses) ∷ PrefixCauseBy rule f.n f.prefix
    ∷ ClauseCause f.n f.clauses ∷ ForestCause f.n (read_as rule f.prefix) r ∷ AskedCause f.n (read_as rule f.prefix) x ∷ []

-- the order of a call that lists, for x, the numbers of which P holds: 23, 1, 2, prefix from the left, clause literals from the left, 12, 13, 14
abbrev pub list_order : ℕ → Formula → Rows → ℕ → (ℕ → Type 0) → List ℕ → List Causes
list_order rule f r x P before =
    RuleCause rule ∷ VariableCount f.n ∷ LengthCause f.prefix (length f.clauses) ∷ PrefixCauseBy rule f.n f.prefix
    ∷ ClauseCause f.n f.clauses ∷ ForestCause f.n (read_as rule f.prefix) r ∷ AskedCause f.n (read_as rule f.prefix) x
    ∷ OutputCause P before ∷ []
