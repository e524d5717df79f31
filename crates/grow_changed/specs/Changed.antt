-- To be believed: which universals have another set once a clause is added (rule 21.1, rule 21.2), the order in which the call looks for refusals
-- (rule 21.3), and what it promises.
use Rattle.std.specs.Prelude.{ℕ, ◌≡◌, true, List, [], ◌∷◌, ◌⊎◌, ℤ, length}
use Rattle.terms.specs.Answers.{Listing}
use Rattle.terms.specs.Refusals.{Causes}
use Rattle.terms.specs.declared.Scheme.{Scheme}
use Rattle.terms.specs.Says.{Answer}
use Rattle.formula.specs.Causes.{VariableCount, LengthCause, ClauseCause}
use Rattle.formula.specs.Lent.{Formula, formula_of}
use Rattle.formula_rules.specs.Rules.{read_as, read_by, RuleCause, PrefixCauseBy}
use Rattle.forest_theory.specs.Forest.{Forest}
use Rattle.forest_tables.specs.Causes.{ForestCause}
use Rattle.forest_tables.specs.Formula.{universal}
use Rattle.forest_tables.specs.Lent.{Rows, variables_of, forest_of}
use Rattle.forest.specs.Answers.{MembersBy}
use Rattle.forest.specs.Causes.{OutputCause}
use Rattle.grow_refusals.specs.Admitted.{AddedCause}
use Rattle.grow.specs.Grown.{Extended, with_last}

-- the formula with a clause put last
abbrev pub longer : Formula → List ℤ → Formula
longer f clause = formula_of f.n f.prefix (with_last f.clauses clause)

-- rows that add leaves of lent ones: those of the forest of their joins with the clause added
abbrev pub LeftOf : Formula → Rows → List ℤ → Rows → Type 0
LeftOf f r clause left = Forest (variables_of f) (Extended (variables_of f) (forest_of f r) clause) (forest_of f left)

-- y is in the set of x once the clause is added: by the clauses with it put last, and by rows that add leaves
abbrev pub LaterBy : Scheme → Formula → Rows → List ℤ → ℕ → ℕ → Type 0
LaterBy scheme f r clause x y = (left : Rows) × LeftOf f r clause left × MembersBy scheme (longer f clause) left x y

-- one of two holds, and the other does not
abbrev pub OnlyOne : Type 0 → Type 0 → Type 0
OnlyOne P Q = (P × (Q → ⊥)) ⊎ (Q × (P → ⊥))

-- The set of the universal x is another once the clause is added: some variable is in one of the two and not in the other.
abbrev pub Changes : Scheme → Formula → Rows → List ℤ → ℕ → Type 0
Changes scheme f r clause x =
    (universal f.n f.prefix x ≡ true) × ((y : ℕ) × OnlyOne (MembersBy scheme f r x y) (LaterBy scheme f r clause x y))

-- the order: 23, 1, 2 (of the clause table with the clause and its 0), prefix from the left, clause literals from the left, the clause's literals from
-- the left, 12, 14
abbrev pub changed_order : ℕ → Scheme → Formula → Rows → List ℤ → List ℕ → List Causes
changed_order rule scheme f r clause before =
    RuleCause rule ∷ VariableCount f.n ∷ LengthCause f.prefix (length (with_last f.clauses clause)) ∷ PrefixCauseBy rule f.n f.prefix
    ∷ ClauseCause f.n f.clauses ∷ AddedCause f.n clause ∷ ForestCause f.n (read_as rule f.prefix) r
    ∷ OutputCause (Changes scheme (read_by rule f) r clause) before ∷ []

-- What the call promises: the universals whose set is another, ascending, and nothing else in the lent table changed.
abbrev pub ChangedListed : ℕ → Scheme → Formula → Rows → List ℤ → List ℕ → List ℕ → Answer ℕ → Type 0
ChangedListed rule scheme f r clause before = Listing (changed_order rule scheme f r clause before) (Changes scheme (read_by rule f) r clause) before
