-- What build and add promise: the order in which each looks for refusals (rule 8.2), and what it leaves in the lent rows and in the tally (demand 3;
-- rule 3.5, rule 4.3, rule 4.4, rule 7.2, rule 7.5).
use Rattle.std.specs.Prelude.{ℕ, ◌<◌, ◌≡◌, List, [], ◌∷◌, ◌++◌, ◌⊎◌, ℤ, pos, length}
use Rattle.std.specs.Borrow.{MutBor}
use denote.Triple.Both.{Both}
use Rattle.terms.specs.Says.{said, Answer}
use Rattle.terms.specs.Answers.{Then}
use Rattle.terms.specs.Refusals.{Causes, At0, Judged}
use Rattle.formula.specs.Causes.{VariableCount, LengthCause, ClauseCause}
use Rattle.formula.specs.Lent.{Formula}
use Rattle.formula_rules.specs.Rules.{read_as, read_by, RuleCause, PrefixCauseBy}
use Rattle.formula.specs.Meaning.{connected}
use Rattle.forest_tables.specs.Causes.{ForestCause}
use Rattle.forest_tables.specs.Lent.{Rows, rows_lent, rows_out, variables_of}
use Rattle.forest_tables.specs.Formula.{variables, joined, Shares}
use Rattle.forest_theory.specs.Reach.{Variables, Joined}
use Rattle.forest_theory.specs.Tables.{Table, ClassName, row, lent, joins}
use Rattle.forest_theory.specs.Forest.{Forest}
use Rattle.forest_theory.specs.Counts.{Counted, how_many, names_itself}
use Rattle.grow_passes.specs.Past.{Past}
use Rattle.grow_refusals.specs.Admitted.{AddedCause, WrongTally}
use Rattle.terms.specs.declared.Tally.{Tally}
use Rattle.grow.specs.Taken.{Taken, TallyOf}

-- What is lent to be rewritten: the rows of a forest, and the tally beside them.
pub record Standing : Type 0 where
  pub rows : Rows
  pub tally : Tally

abbrev pub standing : Rows → Tally → Standing
standing r tally = record { rows = r; tally = tally }

-- so of a call's parameters, as they were passed, and as the call leaves them
abbrev pub standing_in : {C P N : Type 0} → Both (MutBor (List ℕ)) C → Both (MutBor (List ℕ)) P → Both (MutBor (List ℕ)) N → Tally → Standing
standing_in classes parents counts tally = standing (rows_lent classes parents counts) tally

abbrev pub standing_out : {C P N : Type 0} → Both C (MutBor (List ℕ)) → Both P (MutBor (List ℕ)) → Both N (MutBor (List ℕ)) → Tally → Standing
standing_out classes parents counts tally = standing (rows_out classes parents counts) tally

-- the table of its classes and parents, and how many class names that has
abbrev pub forest_in : Variables → Standing → Table
forest_in X s = lent X s.rows.classes s.rows.parents

abbrev pub class_names : Variables → Standing → ℕ
class_names X s = how_many (names_itself X (forest_in X s)) X.count

-- how many existentials there are
abbrev pub existentials : Variables → ℕ
existentials X = how_many X.ex X.count

-- 14: a lent table shorter than n
abbrev pub TooShort : ℕ → Standing → Type 0
TooShort n s = (length s.rows.classes < n) ⊎ ((length s.rows.parents < n) ⊎ (length s.rows.counts < n))

abbrev pub RowsCause : ℕ → Standing → Causes
RowsCause n s = At0 14 (TooShort n s)

-- the order of build: 23, 1, 2, prefix from the left, clause literals from the left, 14
abbrev pub build_order : ℕ → Formula → Standing → List Causes
build_order rule f s =
    RuleCause rule ∷ VariableCount f.n ∷ LengthCause f.prefix (length f.clauses) ∷ PrefixCauseBy rule f.n f.prefix
    ∷ ClauseCause f.n f.clauses ∷ RowsCause f.n s ∷ []

-- 18: a tally that does not fit the rows
abbrev pub TallyCause : Variables → Standing → Causes
TallyCause X s = At0 18 (WrongTally s.tally (class_names X s) (existentials X))

-- the order of add: 23, 1, 2, prefix from the left, the clause's literals from the left, 12, 18
abbrev pub add_order : ℕ → ℕ → List ℕ → Standing → List ℤ → List Causes
add_order rule n es s ls =
    RuleCause rule ∷ VariableCount n ∷ LengthCause es (length ls) ∷ PrefixCauseBy rule n es ∷ AddedCause n ls
    ∷ ForestCause n (read_as rule es) s.rows ∷ TallyCause (variables n (read_as rule es)) s ∷ []

-- the joins that the lent tables stand for, with a clause added; one that is always true adds none
abbrev pub Extended : Variables → Table → List ℤ → ℕ → ℕ → Type 0
Extended X W ls = Joined (joins X W ++ (connected ls ∷ []))

-- The lent rows of 1 to n become the forest of the joins J, with its counts; those past n stay.
pub record Grown (X : Variables) (J : ℕ → ℕ → Type 0) (s s' : Standing) : Type 0 where
  pub past : Past X.count s.rows.classes s'.rows.classes × Past X.count s.rows.parents s'.rows.parents × Past X.count s.rows.counts s'.rows.counts
  pub forest : Forest X J (forest_in X s')
  pub counted : Counted X (forest_in X s') (row X.count s'.rows.counts)

-- the tally that stands beside the rows is that of the list of clauses
abbrev pub Tallies : Variables → List ℤ → Standing → Type 0
Tallies X ls s = TallyOf X (joined ls) s.tally

-- what an add does to the tally: a clause is taken, by the class names of the tables before and after
abbrev pub Took : Variables → Standing → Standing → Type 0
Took X s s' = Taken (ClassName X (forest_in X s)) (ClassName X (forest_in X s')) s.tally s'.tally

-- What a call leaves: with the count n, the forest, and a tally as T says; where it refuses, all as it was.
abbrev pub Leaves : Variables → (ℕ → ℕ → Type 0) → (Standing → Type 0) → Standing → Standing → Answer ℕ → Type 0
Leaves X J T s s' answer = Then (λ (written : ℕ). (written ≡ X.count) × Grown X J s s' × T s') (s' ≡ s) (said answer)

-- What a call promises that rewrites what stands: its refusals in their order, and what it leaves.
pub record Rewrites (order : List Causes) (X : Variables) (J : ℕ → ℕ → Type 0) (T : Standing → Type 0) (s s' : Standing) (answer : Answer ℕ) : Type 0 where
  pub judged : Judged order answer
  pub leaves : Leaves X J T s s' answer

-- What build promises: the forest of the clauses, by the prefix as the rule reads it, and the tally of their list.
abbrev pub Builds : ℕ → Formula → Standing → Standing → Answer ℕ → Type 0
Builds rule f s =
    Rewrites (build_order rule f s) (variables_of (read_by rule f)) (Shares f.clauses) (Tallies (variables_of (read_by rule f)) f.clauses) s

-- What add leaves by a prefix that is read: the forest of the joins which the lent tables stand for, with the clause added, and the tally with the
-- clause taken.
abbrev pub AddsBehind : List Causes → Variables → Standing → List ℤ → Standing → Answer ℕ → Type 0
AddsBehind order X s ls = Rewrites order X (Extended X (forest_in X s) ls) (Took X s) s

-- What add promises.
abbrev pub Adds : ℕ → ℕ → List ℕ → Standing → List ℤ → Standing → Answer ℕ → Type 0
Adds rule n es s ls = AddsBehind (add_order rule n es s ls) (variables n (read_as rule es)) s ls

-- A clause table with a clause put last.
abbrev pub with_last : List ℤ → List ℤ → List ℤ
with_last table clause = table ++ (clause ++ (pos 0 ∷ []))
