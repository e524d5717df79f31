-- All sets of a formula in one list (rule 7.4), the causes of refusal of the call that writes it and their order (rule 8.1, rule 8.2), and what that
-- call promises.
use Rattle.std.specs.Prelude.{ℕ, zero, suc, ◌<◌, ◌≡◌, Bool, true, false, List, [], ◌∷◌, ◌++◌, length}
use Rattle.terms.specs.Refusals.{Causes, At0}
use Rattle.terms.specs.Says.{Answer}
use Rattle.formula.specs.Causes.{VariableCount, LengthCause, ClauseCause}
use Rattle.formula.specs.Lent.{Formula}
use Rattle.formula_rules.specs.Rules.{read_as, read_by, RuleCause, PrefixCauseBy}
use Rattle.forest_tables.specs.Lent.{Rows}
use Rattle.terms.specs.Listed.{Listed}
use Rattle.forest_tables.specs.Formula.{universal}
use Rattle.forest_tables.specs.Causes.{ForestCause}
use Rattle.terms.specs.declared.Scheme.{Scheme}
use Rattle.forest.specs.Answers.{MembersBy}
use Rattle.terms.specs.Answers.{Filling}

-- what x adds to the list: if it is universal its number, the count of its set and its set ascending, and else nothing
abbrev pub Record : Bool → ℕ → (ℕ → Type 0) → List ℕ → Type 0
Record true x P part = (set : List ℕ) × Listed P set × (part ≡ x ∷ length set ∷ set)
Record false x P part = part ≡ []

-- what the variables 1 to m add, one after the other; U says which are universal, and P x what the set of x is
abbrev pub Records : (ℕ → Bool) → (ℕ → ℕ → Type 0) → ℕ → List ℕ → Type 0
Records U P zero list = list ≡ []
Records U P (suc m) list = (before : List ℕ) × (part : List ℕ) × Records U P m before × Record (U (suc m)) (suc m) (P (suc m)) part × (list ≡ before ++ part)

-- the sets of all universals by a scheme, by the lent rows
abbrev pub AllSetsBy : Scheme → Formula → Rows → List ℕ → Type 0
AllSetsBy scheme f r = Records (universal f.n f.prefix) (MembersBy scheme f r) f.n

-- the list needs more room than the lent table has
abbrev pub SetsTooLong : Scheme → Formula → Rows → List ℕ → Type 0
SetsTooLong scheme f r before = (list : List ℕ) × AllSetsBy scheme f r list × (length before < length list)

-- 14: the output is shorter than the list
abbrev pub SetsOutputCause : Scheme → Formula → Rows → List ℕ → Causes
SetsOutputCause scheme f r before = At0 14 (SetsTooLong scheme f r before)

-- the order: 23, 1, 2, prefix from the left, clause literals from the left, 12, 14
abbrev pub sets_order : ℕ → Scheme → Formula → Rows → List ℕ → List Causes
sets_order rule scheme f r before =
    RuleCause rule ∷ VariableCount f.n ∷ LengthCause f.prefix (length f.clauses) ∷ PrefixCauseBy rule f.n f.prefix
    ∷ ClauseCause f.n f.clauses ∷ ForestCause f.n (read_as rule f.prefix) r ∷ SetsOutputCause scheme (read_by rule f) r before ∷ []

-- what the call for all sets by a scheme promises
abbrev pub SetsListed : ℕ → Scheme → Formula → Rows → List ℕ → List ℕ → Answer ℕ → Type 0
SetsListed rule scheme f r before = Filling (sets_order rule scheme f r before) (AllSetsBy scheme (read_by rule f) r) before
