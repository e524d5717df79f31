-- What each call for C (rule 7.1) promises, by name: of what is lent to it, and of the cells and tables that it may write. Where a promise takes a scheme,
-- a call that names none gives the strict one (rule 5.4).
use Rattle.std.specs.Prelude.{ℕ, ◌≡◌, List, ℤ}
use Rattle.std.specs.Borrow.{MutBor}
use denote.Triple.Both.{Both}
use Rattle.terms.specs.Answers.{InFront}
use Rattle.terms.specs.Listed.{Listed}
use Rattle.terms.specs.Refusals.{Causes}
use Rattle.terms.specs.declared.Scheme.{Scheme}
use Rattle.formula.specs.Causes.{clause_order}
use Rattle.formula.specs.Lent.{Formula}
use Rattle.formula_rules.specs.Rules.{read_as, read_by, check_order}
use Rattle.forest_tables.specs.Formula.{variables, Shares}
use Rattle.forest_tables.specs.Lent.{Rows, rows_lent, rows_out, variables_of}
use Rattle.forest.specs.Causes.{entry_order, ask_order, list_order}
use Rattle.forest.specs.Answers.{Entry, EntriesBy, MembersBy, SizeBy}
use Rattle.sets.specs.Sets.{AllSetsBy, sets_order}
use Rattle.grow.specs.Grown.{Standing, standing, forest_in, build_order, add_order, Extended, Grown, Tallies, Took}
use Rattle.text_write.specs.Stored.{Stored}
use Rattle.text_qdimacs.specs.Reading.{read_order, ReadInto}
use Rattle.text_qdimacs.specs.Stored.{formula_text, writing_order}
use Rattle.path_check.specs.Causes.{path_order}
use Rattle.path_resolution.specs.Paths.{DependsByPaths, resolution_order}
use Rattle.expand.specs.Promise.{result_in, result_out, OfExpanded, LeavesFormula, expand_order}
use Rattle.dqbf_lists.specs.Causes.{check_lists_order}
use Rattle.dqbf_sets.specs.Answers.{set_order}
use Rattle.dqbf_sets.specs.Depends.{DependsOnBy}
use Rattle.dqbf_text.specs.Reading.{listed_read_order, ListedReadInto}
use Rattle.dqbf_text.specs.Stored.{listed_text, listed_writing_order}
use Rattle.file_format.specs.Layout.{FileOf}
use Rattle.file_format.specs.Causes.{Lent, load_order, store_order}
use Rattle.c_answers.specs.Codes.{tally_in}
use Rattle.snowcoddle.specs.Told.{Told, Clause, Left}
use Rattle.snowcoddle.specs.Filed.{GivenByFile}

-- a cell, and a table, that a call may write: as it was lent, and as the call leaves it
abbrev pub LentCell : Type 0
LentCell = Both (MutBor ℕ) (MutBor ℕ)

abbrev pub LentTable : Type 0
LentTable = Both (MutBor (List ℕ)) (MutBor (List ℕ))

abbrev pub LentLiterals : Type 0
LentLiterals = Both (MutBor (List ℤ)) (MutBor (List ℤ))

-- it holds what it held
abbrev pub Kept : {A : Type 0} → Both (MutBor A) (MutBor A) → Type 0
Kept lent = lent.exit.now ≡ lent.entry.now

-- what is told, with the place of a refusal in its cell
abbrev pub Tells : List Causes → Type 0 → Type 0 → LentCell → ℕ → Type 0
Tells order given kept place returned = Told order given kept returned place.entry.now place.exit.now

-- a list of which L holds is written into `out`, with its length in the cell `count`
abbrev pub TellsList : List Causes → (List ℕ → Type 0) → LentTable → LentCell → LentCell → ℕ → Type 0
TellsList order L out count = Tells order (InFront L out.entry.now out.exit.now count.exit.now) (Kept count × Kept out)

-- check: nothing is given but the place of a refusal
abbrev pub CheckTold : ℕ → Formula → LentCell → ℕ → Type 0
CheckTold rule f = Tells (check_order rule f) (Unit {0}) (Unit {0})

-- the clause with a number: where it stands in the lent table, and how many literals it has
abbrev pub ClauseTold : ℕ → List ℤ → ℕ → LentCell → LentCell → LentCell → ℕ → Type 0
ClauseTold n ls asked start len = Tells (clause_order n ls asked) (Clause ls asked start.exit.now len.exit.now) (Kept start × Kept len)

-- the entry point of x for y, and its rises
abbrev pub EntryTold : ℕ → Formula → Rows → ℕ → ℕ → LentCell → LentCell → LentCell → ℕ → Type 0
EntryTold rule f r x y entry rises =
    Tells (entry_order rule f r x y) (Entry (read_by rule f) r x y entry.exit.now rises.exit.now) (Kept entry × Kept rises)

-- the entry points of x by a scheme, its set, and its size
abbrev pub EntriesTold : ℕ → Scheme → Formula → Rows → ℕ → LentTable → LentCell → LentCell → ℕ → Type 0
EntriesTold rule scheme f r x out =
    TellsList (list_order rule f r x (EntriesBy scheme (read_by rule f) r x) out.entry.now) (Listed (EntriesBy scheme (read_by rule f) r x)) out

abbrev pub SetTold : ℕ → Scheme → Formula → Rows → ℕ → LentTable → LentCell → LentCell → ℕ → Type 0
SetTold rule scheme f r x out =
    TellsList (list_order rule f r x (MembersBy scheme (read_by rule f) r x) out.entry.now) (Listed (MembersBy scheme (read_by rule f) r x)) out

abbrev pub SizeTold : ℕ → Scheme → Formula → Rows → ℕ → LentCell → LentCell → ℕ → Type 0
SizeTold rule scheme f r x size = Tells (ask_order rule f r x) (SizeBy scheme (read_by rule f) r x size.exit.now) (Kept size)

-- the sets of all universals by a scheme
abbrev pub SetsTold : ℕ → Scheme → Formula → Rows → LentTable → LentCell → LentCell → ℕ → Type 0
SetsTold rule scheme f r out = TellsList (sets_order rule scheme f r out.entry.now) (AllSetsBy scheme (read_by rule f) r) out

-- what stands before build and add: the lent rows, and the tally in its cells
abbrev pub lent_standing : LentTable → LentTable → LentTable → LentTable → Standing
lent_standing classes parents counts tally = standing (rows_lent classes parents counts) (tally_in tally.entry.now)

-- what they leave, of which S holds; and that all is kept
abbrev pub LeftTold : (Standing → Type 0) → LentTable → LentTable → LentTable → LentTable → Type 0
LeftTold S classes parents counts tally = Left S (rows_out classes parents counts) tally.exit.now

abbrev pub RowsKept : LentTable → LentTable → LentTable → LentTable → Type 0
RowsKept classes parents counts tally = Kept classes × Kept parents × Kept counts × Kept tally

-- build: the rows of the forest and the tally of the list, with n as the count
abbrev pub BuildTold : ℕ → Formula → LentTable → LentTable → LentTable → LentTable → LentCell → LentCell → ℕ → Type 0
BuildTold rule f classes parents counts tally count =
    Tells (build_order rule f (lent_standing classes parents counts tally))
    ((count.exit.now ≡ f.n)
    × LeftTold (λ s. Grown (variables_of (read_by rule f)) (Shares f.clauses) (lent_standing classes parents counts tally) s
    × Tallies (variables_of (read_by rule f)) f.clauses s) classes parents counts tally) (Kept count × RowsKept classes parents counts tally)

-- add: the rows of the forest with the clause, and the tally with the clause taken
abbrev pub AddTold : ℕ → ℕ → List ℕ → LentTable → LentTable → LentTable → LentTable → List ℤ → LentCell → ℕ → Type 0
AddTold rule n es classes parents counts tally ls =
    Tells (add_order rule n es (lent_standing classes parents counts tally) ls)
    (LeftTold (λ s. Grown (variables n (read_as rule es))
    (Extended (variables n (read_as rule es)) (forest_in (variables n (read_as rule es)) (lent_standing classes parents counts tally)) ls)
    (lent_standing classes parents counts tally) s
    × Took (variables n (read_as rule es)) (lent_standing classes parents counts tally) s) classes parents counts tally)
    (RowsKept classes parents counts tally)

-- read: n, and both tables of the formula with the counts of their entries
abbrev pub ReadTold : List ℕ → LentCell → LentTable → LentCell → LentLiterals → LentCell → LentCell → ℕ → Type 0
ReadTold text n prefix entries clauses literals =
    Tells (read_order text prefix.entry.now clauses.entry.now)
    (ReadInto n.exit.now entries.exit.now literals.exit.now text prefix.entry.now prefix.exit.now clauses.entry.now
    clauses.exit.now)
    (Kept n × Kept entries × Kept literals × Kept prefix × Kept clauses)

-- write: the text of the formula, with the count of its bytes
abbrev pub WriteTold : ℕ → Formula → LentTable → LentCell → LentCell → ℕ → Type 0
WriteTold rule f text count =
    Tells (writing_order rule f text.entry.now) (Stored (formula_text f) text.entry.now text.exit.now count.exit.now)
    (Kept count × Kept text)

-- the path check: nothing is given but the place of a refusal
abbrev pub PathTold : ℕ → Formula → ℕ → ℕ → List ℕ → LentCell → ℕ → Type 0
PathTold rule f x y path = Tells (path_order rule f x y path) (Unit {0}) (Unit {0})

-- the resolution-path set of x
abbrev pub ResolutionTold : ℕ → Formula → ℕ → LentTable → LentCell → LentCell → ℕ → Type 0
ResolutionTold rule f x out =
    TellsList (resolution_order rule f x out.entry.now) (Listed (DependsByPaths (variables_of (read_by rule f)) f.clauses x)) out

-- expand: n, and both tables of the formula with x removed, with the counts of their entries
abbrev pub ExpandTold : ℕ → Formula → ℕ → LentCell → LentTable → LentCell → LentLiterals → LentCell → LentCell → ℕ → Type 0
ExpandTold rule f x n prefix entries clauses literals =
    Tells (expand_order rule f x (result_in prefix clauses))
    (OfExpanded (read_by rule f) x
    (LeavesFormula (result_in prefix clauses) (result_out prefix clauses) n.exit.now entries.exit.now literals.exit.now))
    (Kept n × Kept entries × Kept literals × (result_out prefix clauses ≡ result_in prefix clauses))

-- check with lists, and the set of x by lists and a scheme
abbrev pub CheckListsTold : ℕ → Formula → List ℕ → LentCell → ℕ → Type 0
CheckListsTold rule f ds = Tells (check_lists_order rule f ds) (Unit {0}) (Unit {0})

abbrev pub ListedSetTold : ℕ → Scheme → Formula → List ℕ → ℕ → LentTable → LentCell → LentCell → ℕ → Type 0
ListedSetTold rule scheme f ds x out =
    TellsList (set_order rule f ds x (DependsOnBy scheme (read_by rule f) ds x) out.entry.now) (Listed (DependsOnBy scheme (read_by rule f) ds x)) out

-- read with lists: n, and the three tables with the counts of their entries
abbrev pub ReadListsTold : List ℕ → LentCell → LentTable → LentCell → LentLiterals → LentCell → LentTable → LentCell → LentCell → ℕ → Type 0
ReadListsTold text n prefix entries clauses literals lists rows =
    Tells (listed_read_order text (prefix.entry.now, clauses.entry.now, lists.entry.now))
    (ListedReadInto n.exit.now entries.exit.now literals.exit.now rows.exit.now text
    (prefix.entry.now, clauses.entry.now, lists.entry.now) (prefix.exit.now, clauses.exit.now, lists.exit.now))
    (Kept n × Kept entries × Kept literals × Kept rows × Kept prefix × Kept clauses × Kept lists)

-- write with lists: the text of the formula and its lists, with the count of its bytes
abbrev pub WriteListsTold : ℕ → Formula → List ℕ → LentTable → LentCell → LentCell → ℕ → Type 0
WriteListsTold rule f ds text count =
    Tells (listed_writing_order rule f ds text.entry.now) (Stored (listed_text f ds) text.entry.now text.exit.now count.exit.now)
    (Kept count × Kept text)

-- store: the file of the formula, with the count of its bytes
abbrev pub StoreTold : ℕ → Formula → LentTable → LentCell → LentCell → ℕ → Type 0
StoreTold rule f file = TellsList (store_order rule f file.entry.now) (FileOf rule f) file

-- load: n, both tables of the formula with the counts of their entries, the rows of its forest, and whether the file has sets
abbrev pub LoadTold : ℕ → List ℕ → Lent → Lent → LentCell → LentCell → LentCell → LentCell → LentCell → ℕ → Type 0
LoadTold rule file lent lent' n entries literals with_sets =
    Tells (load_order rule file lent)
    (GivenByFile rule file lent lent' n.exit.now entries.exit.now literals.exit.now with_sets.exit.now)
    (Kept n × Kept entries × Kept literals × Kept with_sets × (lent' ≡ lent))
