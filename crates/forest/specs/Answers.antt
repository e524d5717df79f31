-- What the calls that ask of a forest answer, and what they promise (demand 2; rule 2.7, rule 2.8, rule 3.4, rule 4.2, rule 5.1, rule 5.2).
use Rattle.terms.specs.Says.{Answer}
use Rattle.terms.specs.declared.Point.{Point}
use Rattle.std.specs.Prelude.{ℕ, ◌≤◌, ◌≡◌, List, ℤ}
use Rattle.terms.specs.Answers.{Answered, AnsweredNumber, Listing}
use Rattle.terms.specs.Listed.{Listed}
use Rattle.terms.specs.declared.Scheme.{Scheme}
use Rattle.terms.specs.declared.Scheme.TheVariants.{Standard, Strict}
use Rattle.formula.specs.Lent.{Formula}
use Rattle.formula.specs.Meaning.{level}
use Rattle.forest_theory.specs.Reach.{Variables, Depends, StrictlyDepends}
use Rattle.forest_theory.specs.Tables.{Table, row, EntryPoint, EntryPointOf, StrictEntryOf, MemberBy}
use Rattle.forest_theory.specs.Counts.{sum}
use Rattle.formula_rules.specs.Rules.{read_by}
use Rattle.forest_tables.specs.Formula.{Shares, SharesBy}
use Rattle.forest_tables.specs.Lent.{Rows, variables_of, forest_of}
use Rattle.forest.specs.Causes.{entry_order, ask_order, list_order}

-- the entry point e of x for y, with its rises, by the lent rows; the rises are never more than y's block number
abbrev pub Entry : Formula → Rows → ℕ → ℕ → ℕ → ℕ → Type 0
Entry f r x y e rises = EntryPoint (variables_of f) (forest_of f r) x y e rises × (rises ≤ level f.prefix y)

-- the entry points of x by a scheme: for the strict one those that both signs have
abbrev pub PointsBy : Scheme → Variables → Table → List ℤ → ℕ → ℕ → Type 0
PointsBy Standard X W ls x = EntryPointOf X W (Shares ls) x
PointsBy Strict X W ls x = StrictEntryOf X W (SharesBy ls) x

-- so by the lent rows
abbrev pub EntriesBy : Scheme → Formula → Rows → ℕ → ℕ → Type 0
EntriesBy scheme f r x = PointsBy scheme (variables_of f) (forest_of f r) f.clauses x

-- the set of x by a scheme, by the lent rows: the members of every class at or below its entry points
abbrev pub MembersBy : Scheme → Formula → Rows → ℕ → ℕ → Type 0
MembersBy scheme f r x = MemberBy (variables_of f) (forest_of f r) (EntriesBy scheme f r x)

-- the size of that set: the sum of the counts of its entry points
abbrev pub SizeBy : Scheme → Formula → Rows → ℕ → ℕ → Type 0
SizeBy scheme f r x size = (entries : List ℕ) × Listed (EntriesBy scheme f r x) entries × (size ≡ sum (row f.n r.counts) entries)

-- what a set by a scheme is on the formula's own forest (demand 2): all that depends on x, by reach
abbrev pub DependsBy : Scheme → Formula → ℕ → ℕ → Type 0
DependsBy Standard f x = Depends (variables_of f) (Shares f.clauses) x
DependsBy Strict f x = StrictlyDepends (variables_of f) (SharesBy f.clauses) (Shares f.clauses) x

-- What each of the calls promises under a rule: its refusals in their order, its answer by the formula as the rule reads it, and what it leaves in the
-- lent output.
abbrev pub EntryAnswered : ℕ → Formula → Rows → ℕ → ℕ → Answer Point → Type 0
EntryAnswered rule f r x y = Answered (entry_order rule f r x y) (Entry (read_by rule f) r x y)

-- a call that lists, for x, the numbers of which P holds
abbrev pub ListedFor : ℕ → Formula → Rows → ℕ → (Formula → ℕ → Type 0) → List ℕ → List ℕ → Answer ℕ → Type 0
ListedFor rule f r x P before = Listing (list_order rule f r x (P (read_by rule f)) before) (P (read_by rule f)) before

abbrev pub EntriesListed : ℕ → Scheme → Formula → Rows → ℕ → List ℕ → List ℕ → Answer ℕ → Type 0
EntriesListed rule scheme f r x = ListedFor rule f r x (λ read. EntriesBy scheme read r x)

abbrev pub SetListed : ℕ → Scheme → Formula → Rows → ℕ → List ℕ → List ℕ → Answer ℕ → Type 0
SetListed rule scheme f r x = ListedFor rule f r x (λ read. MembersBy scheme read r x)

abbrev pub Sized : ℕ → Scheme → Formula → Rows → ℕ → Answer ℕ → Type 0
Sized rule scheme f r x = AnsweredNumber (ask_order rule f r x) (SizeBy scheme (read_by rule f) r x)
