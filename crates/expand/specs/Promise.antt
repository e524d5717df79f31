-- What expanding one universal promises (rule 12.1): the order in which it looks for refusals (rule 8.5), its answer, and what it leaves in the lent
-- tables. All but the order of check speaks of the formula as the reading rule reads it.
use denote.Triple.Both.{Both}
use Rattle.std.specs.Prelude.{ℕ, ◌+◌, ◌<◌, ◌≡◌, List, [], ◌∷◌, ◌⊎◌, ℤ, length}
use Rattle.std.specs.Borrow.{MutBor}
use Rattle.terms.specs.Limits.{most_variables, prefix_entries, clause_entries}
use Rattle.terms.specs.Listed.{Listed}
use Rattle.terms.specs.Overwritten.{overwritten}
use Rattle.terms.specs.Says.{counts_said, Answer}
use Rattle.terms.specs.Answers.{Settles}
use Rattle.terms.specs.Refusals.{Causes, At0}
use Rattle.terms.specs.declared.Scheme.TheVariants.{Standard}
use Rattle.terms.specs.declared.Counts.{Counts}
use Rattle.formula.specs.Causes.{VariableCount, LengthCause, ClauseCause}
use Rattle.formula.specs.Lent.{Formula, formula_of}
use Rattle.formula_rules.specs.Rules.{read_as, read_by, RuleCause, PrefixCauseBy}
use Rattle.forest.specs.Answers.{DependsBy}
use Rattle.forest.specs.Causes.{AskedCause}
use Rattle.expand_clauses.specs.Expansion.{expanded_prefix, expanded_clauses}

-- The tables that are lent for the result: one for its prefix, and one for its clauses.
pub record ResultTables : Type 0 where
  pub prefix : List ℕ
  pub clauses : List ℤ

abbrev pub result_tables : List ℕ → List ℤ → ResultTables
result_tables prefix clauses = record { prefix = prefix; clauses = clauses }

-- the tables of a call's parameters, as they were passed, and as the call leaves them
abbrev pub result_in : {P C : Type 0} → Both (MutBor (List ℕ)) P → Both (MutBor (List ℤ)) C → ResultTables
result_in prefix clauses = result_tables prefix.entry.now clauses.entry.now

abbrev pub result_out : {P C : Type 0} → Both P (MutBor (List ℕ)) → Both C (MutBor (List ℤ)) → ResultTables
result_out prefix clauses = result_tables prefix.exit.now clauses.exit.now

-- The standard set of x, found from the clauses, as an ascending list.
abbrev pub SetOf : Formula → ℕ → List ℕ → Type 0
SetOf f x members = Listed (DependsBy Standard f x) members

-- the expanded formula by the list of the set of x: each member has a copy, numbered from n + 1
abbrev pub expanded_by : Formula → ℕ → List ℕ → Formula
expanded_by f x members =
    formula_of (f.n + length members) (expanded_prefix x f.n members f.prefix) (expanded_clauses x f.n members f.clauses)

-- P holds of the formula with x expanded by its set
abbrev pub OfExpanded : Formula → ℕ → (Formula → Type 0) → Type 0
OfExpanded f x P = (members : List ℕ) × SetOf f x members × P (expanded_by f x members)

-- 1: the result has over 4,096 variables
abbrev pub ManyVariables : Formula → Type 0
ManyVariables g = most_variables < g.n

-- 2: the prefix of the result has over 8,192 entries, or its clause table over 16,384
abbrev pub Long : Formula → Type 0
Long g = (prefix_entries < length g.prefix) ⊎ (clause_entries < length g.clauses)

-- 14: an output table is shorter than needed
abbrev pub Short : ResultTables → Formula → Type 0
Short out g = (length out.prefix < length g.prefix) ⊎ (length out.clauses < length g.clauses)

-- the causes of 1 and 2, if the result passes a limit, and of 14, each at 0
abbrev pub ResultCountCause : Formula → ℕ → Causes
ResultCountCause f x = At0 1 (OfExpanded f x ManyVariables)

abbrev pub ResultLengthCause : Formula → ℕ → Causes
ResultLengthCause f x = At0 2 (OfExpanded f x Long)

abbrev pub ResultOutputCause : Formula → ℕ → ResultTables → Causes
ResultOutputCause f x out = At0 14 (OfExpanded f x (Short out))

-- the order of the call: 23, 1, 2, prefix from the left, clause literals from the left, 13, and of the result 1, 2, 14
abbrev pub expand_order : ℕ → Formula → ℕ → ResultTables → List Causes
expand_order rule f x out =
    RuleCause rule ∷ VariableCount f.n ∷ LengthCause f.prefix (length f.clauses) ∷ PrefixCauseBy rule f.n f.prefix
    ∷ ClauseCause f.n f.clauses ∷ AskedCause f.n (read_as rule f.prefix) x ∷ ResultCountCause (read_by rule f) x
    ∷ ResultLengthCause (read_by rule f) x ∷ ResultOutputCause (read_by rule f) x out ∷ []

-- What is left of a formula that is written: n and the two counts of entries, and both tables in front, with nothing past them changed.
pub record LeavesFormula (out out' : ResultTables) (count entries literals : ℕ) (g : Formula) : Type 0 where
  pub count_is : count ≡ g.n
  pub entries_is : entries ≡ length g.prefix
  pub literals_is : literals ≡ length g.clauses
  pub prefix_is : out'.prefix ≡ overwritten g.prefix out.prefix
  pub clauses_is : out'.clauses ≡ overwritten g.clauses out.clauses

-- What the call answers by an order of refusals, and by the formula as it is read; a refusal leaves both tables.
abbrev pub ExpandsBy : List Causes → Formula → ℕ → ResultTables → ResultTables → Answer Counts → Type 0
ExpandsBy order f x out out' answer =
    Settles order (λ (counts : ℕ × ℕ × ℕ). OfExpanded f x (LeavesFormula out out' counts.0 counts.1 counts.2)) (out' ≡ out) (counts_said answer)

-- What the call promises.
abbrev pub Expands : ℕ → Formula → ℕ → ResultTables → ResultTables → Answer Counts → Type 0
Expands rule f x out = ExpandsBy (expand_order rule f x out) (read_by rule f) x out
