-- What verifying a file finds. What a reader must believe of the call that reads it is in the definitions of `file_format`.
use Rattle.std.specs.Prelude.{ℕ, ◌+◌, ◌*◌, ◌≡◌, List, [], ◌∷◌, ◌++◌, ◌⊎◌, Ok, Err}
use Rattle.terms.specs.Says.{Verdict}
use Rattle.terms.specs.Refusals.{Causes, Judged}
use Rattle.formula.specs.Lent.{Formula}
use Rattle.formula.specs.InnerLevels.{SoundPrefix}
use Rattle.formula.specs.InnerLookup.{SoundClauses}
use Rattle.formula_rules.specs.Rules.{RuleCause, read_by, check_order}
use Rattle.forest_theory.specs.Tables.{lent}
use Rattle.forest_theory.specs.Forest.{Forest}
use Rattle.forest_tables.specs.Formula.{Shares}
use Rattle.forest_tables.specs.Lent.{Rows, rows, variables_of}
use Rattle.sets_occurrences.specs.InnerThreads.{Closed}
use Rattle.file_format.specs.Numbers.{numbers_at}
use Rattle.file_format.specs.Places.{payload_at, third_at, count_in, formula_held}
use Rattle.file_format.specs.Causes.{RightRows, ForestFileCause}
use Rattle.file_format.specs.InnerOrders.{file_order, table_order}

-- the number of a reading rule
abbrev pub IsRule : ℕ → Type 0
IsRule rule = (rule ≡ 1) ⊎ (rule ≡ 2)

-- a formula that is accepted as it is read
abbrev pub SoundFormula : Formula → Type 0
SoundFormula f = SoundPrefix f.n f.prefix × SoundClauses f.clauses × Closed f.clauses

-- class names and parents are those of its forest
abbrev pub OwnForest : Formula → List ℕ → List ℕ → Type 0
OwnForest f classes parents = Forest (variables_of f) (Shares f.clauses) (lent (variables_of f) classes parents)

-- the most numbers that the record of kind 4 may have: two bytes each, in the longest file
abbrev pub set_numbers : ℕ
set_numbers = 131072

-- the rows that the record of kind 3 has: class names, parents, and counts
unfoldable pub classes_in : List ℕ → List ℕ
classes_in file = numbers_at 4 file (payload_at (third_at file)) (count_in file)

unfoldable pub parents_in : List ℕ → List ℕ
parents_in file = numbers_at 4 file (payload_at (third_at file) + 4 * count_in file) (count_in file)

unfoldable pub counts_in : List ℕ → List ℕ
counts_in file = numbers_at 4 file (payload_at (third_at file) + 4 * count_in file + 4 * count_in file) (count_in file)

abbrev pub rows_held : List ℕ → Rows
rows_held file = rows (classes_in file) (parents_in file) (counts_in file)

-- What a verdict on a file finds by an order, where a formula is read in it: the first cause, or that the file has the rows of the formula.
abbrev pub Agreed : Formula → List ℕ → Verdict → Type 0
Agreed f file (Ok _) = (r : Rows) × RightRows f file r
Agreed f file (Err refusal) = Unit {0}

abbrev pub Finds : List Causes → Formula → List ℕ → Verdict → Type 0
Finds order f file v = Judged order v × Agreed f file v

-- the verdict on the rows and sets of a file, by an accepted formula: 22
abbrev pub JudgesRows : Formula → List ℕ → Verdict → Type 0
JudgesRows f file = Finds (ForestFileCause f file ∷ []) f file

-- the verdict on what a file holds, by the formula that is lent: the table refusals, then 22
abbrev pub contents_order : ℕ → Formula → List ℕ → List Causes
contents_order rule f file = check_order rule f ++ (ForestFileCause (read_by rule f) file ∷ [])

abbrev pub Judges : ℕ → Formula → List ℕ → Verdict → Type 0
Judges rule f file = Finds (contents_order rule f file) (read_by rule f) file

-- the verdict on the whole file: 23, those of its records, and those of what it holds
abbrev pub verify_order : ℕ → List ℕ → List Causes
verify_order rule file =
    RuleCause rule ∷ (file_order file ++ (table_order rule (formula_held file) ++ (ForestFileCause (read_by rule (formula_held file)) file ∷ [])))

abbrev pub Verifies : ℕ → List ℕ → Verdict → Type 0
Verifies rule file = Finds (verify_order rule file) (read_by rule (formula_held file)) file
