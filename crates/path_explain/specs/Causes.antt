-- The order of explain (rule 8.2, rule 11.5), and what it promises.
use Rattle.std.specs.Prelude.{ℕ, ◌<◌, List, [], ◌∷◌, length}
use Rattle.terms.specs.Answers.{Filling}
use Rattle.terms.specs.Refusals.{Causes, At0}
use Rattle.terms.specs.Says.{Answer}
use Rattle.formula.specs.Causes.{VariableCount, LengthCause, ClauseCause}
use Rattle.formula.specs.Lent.{Formula}
use Rattle.formula_rules.specs.Rules.{read_as, read_by, RuleCause, PrefixCauseBy}
use Rattle.forest_entries.specs.declared.Signs.{Signs}
use Rattle.forest_tables.specs.Lent.{variables_of}
use Rattle.forest.specs.Causes.{PairCause}
use Rattle.path_explain.specs.Ways.{Shortest, Explains}

-- what is written for x and y, by a formula
abbrev pub ExplainsBy : Formula → Signs → ℕ → ℕ → List ℕ → Type 0
ExplainsBy f = Explains (variables_of f) f.clauses

-- 14: the output is shorter than a shortest way
abbrev pub ShortOutput : Formula → Signs → ℕ → ℕ → List ℕ → Causes
ShortOutput f signs x y before = At0 14 ((path : List ℕ) × Shortest (variables_of f) f.clauses signs x y path × (length before < length path))

-- the order of the call: 23, 1, 2, prefix from the left, clause literals from the left, 13 for x and y, 14
abbrev pub explain_order : ℕ → Formula → Signs → ℕ → ℕ → List ℕ → List Causes
explain_order rule f signs x y before =
    RuleCause rule ∷ VariableCount f.n ∷ LengthCause f.prefix (length f.clauses) ∷ PrefixCauseBy rule f.n f.prefix
    ∷ ClauseCause f.n f.clauses ∷ PairCause f.n (read_as rule f.prefix) x y ∷ ShortOutput (read_by rule f) signs x y before ∷ []

-- What explain promises: its refusals in their order, the way in front of the lent output, by the formula as the rule reads it, and the count of its
-- clauses, which is 0 where there is none.
abbrev pub Explained : ℕ → Formula → Signs → ℕ → ℕ → List ℕ → List ℕ → Answer ℕ → Type 0
Explained rule f signs x y before = Filling (explain_order rule f signs x y before) (ExplainsBy (read_by rule f) signs x y) before
