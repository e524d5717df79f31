-- What the call promises that lists the set of a universal by dependency lists (rule 13.2): its refusals in their order (rule 8.2), the set ascending with
-- its count (rule 7.4), and what is left in the lent output (rule 7.5).
use Rattle.std.specs.Prelude.{ℕ, List, [], ◌∷◌, length}
use Rattle.terms.specs.Answers.{Listing}
use Rattle.terms.specs.Refusals.{Causes}
use Rattle.terms.specs.declared.Scheme.{Scheme}
use Rattle.terms.specs.Says.{Answer}
use Rattle.formula.specs.Causes.{VariableCount, ClauseCause}
use Rattle.formula.specs.Lent.{Formula}
use Rattle.formula_rules.specs.Rules.{read_as, read_by, RuleCause, PrefixCauseBy}
use Rattle.forest.specs.Causes.{AskedCause, OutputCause}
use Rattle.dqbf_lists.specs.Causes.{ListedLengthCause, ListCause}
use Rattle.dqbf_sets.specs.Depends.{DependsOnBy}

-- the order of a call that lists, for x, the numbers of which P holds: 23, 1, 2, prefix from the left, clause literals from the left, lists from the
-- left, 13, 14; lists and x are judged by the prefix as the rule reads it
abbrev pub set_order : ℕ → Formula → List ℕ → ℕ → (ℕ → Type 0) → List ℕ → List Causes
set_order rule f ds x P before =
    RuleCause rule ∷ VariableCount f.n ∷ ListedLengthCause f (length ds) ∷ PrefixCauseBy rule f.n f.prefix
    ∷ ClauseCause f.n f.clauses ∷ ListCause f.n (read_as rule f.prefix) ds ∷ AskedCause f.n (read_as rule f.prefix) x
    ∷ OutputCause P before ∷ []

-- the set of x by a scheme, by the formula as the rule reads it
abbrev pub SetByLists : ℕ → Scheme → Formula → List ℕ → ℕ → List ℕ → List ℕ → Answer ℕ → Type 0
SetByLists rule scheme f ds x before =
    Listing (set_order rule f ds x (DependsOnBy scheme (read_by rule f) ds x) before) (DependsOnBy scheme (read_by rule f) ds x) before
