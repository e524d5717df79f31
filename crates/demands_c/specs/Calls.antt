-- Each call for C tells what a call of the library may answer and leave, so that what holds of the library's calls holds of those for C, in every table and
-- cell; and it returns 0 exactly if it accepts, since no refusal has the number 0 (rule 7.6).
use Rattle.terms.specs.declared.ListedCounts.{ListedCounts}
use Rattle.terms.specs.declared.Counts.{Counts}
use Rattle.terms.specs.declared.Point.{Point}
use Rattle.terms.specs.declared.Loaded.{Loaded}
use Rattle.std.specs.Prelude.{ℕ, ◌≡◌, List, ℤ}
use Rattle.terms.specs.Refusals.{Judged}
use Rattle.terms.specs.Says.{Said, gives, refuses, said, entry_said, counts_said, listed_said, loaded_said, Answer, Verdict}
use Rattle.terms.specs.declared.Scheme.{Scheme}
use Rattle.terms.specs.declared.Tally.{Tally}
use Rattle.formula.specs.Causes.{clause_order}
use Rattle.formula.specs.Lent.{Formula}
use Rattle.formula_rules.specs.Rules.{check_order}
use Rattle.forest_tables.specs.Lent.{Rows, rows_out}
use Rattle.forest.specs.Answers.{EntryAnswered, EntriesListed, SetListed, Sized}
use Rattle.sets.specs.Sets.{SetsListed}
use Rattle.grow.specs.Grown.{standing, Builds, Adds}
use Rattle.text_qdimacs.specs.Reading.{ReadIs}
use Rattle.text_qdimacs.specs.Stored.{Writes}
use Rattle.dqbf_lists.specs.Answers.{ListsChecked}
use Rattle.dqbf_sets.specs.Answers.{SetByLists}
use Rattle.dqbf_text.specs.Reading.{ListedReadIs}
use Rattle.dqbf_text.specs.Stored.{WritesListed}
use Rattle.path_check.specs.Causes.{PathJudged}
use Rattle.path_resolution.specs.Paths.{ResolutionListed}
use Rattle.expand.specs.Promise.{result_in, result_out, Expands}
use Rattle.file_format.specs.Causes.{Lent}
use Rattle.file_format.specs.Promises.{Stores, Loads}
use Rattle.c_answers.specs.Codes.{cells_of, tells_sets}
use Rattle.snowcoddle.specs.Told.{Clause}
use Rattle.snowcoddle.specs.Promises.{LentCell, LentTable, LentLiterals, Kept, CheckTold, ClauseTold, EntryTold, EntriesTold, SetTold, SizeTold, SetsTold, lent_standing}
use Rattle.snowcoddle.specs.Promises.{BuildTold, AddTold, ReadTold, WriteTold, PathTold, ResolutionTold, ExpandTold, CheckListsTold, ListedSetTold}
use Rattle.snowcoddle.specs.Promises.{ReadListsTold, WriteListsTold, StoreTold, LoadTold}

-- What C reads of an answer. Accepted: the call returned 0, the cell `place` is as it was, and the values stand in the other cells. Refused: it returned the
-- number, the place is in the cell `place`, and the other cells are as they were.
abbrev pub Reads : {Values : Type 0} → Said Values → (Values → Type 0) → Type 0 → LentCell → ℕ → Type 0
Reads (gives values) cells kept place returned = (returned ≡ 0) × (place.exit.now ≡ place.entry.now) × cells values
Reads (refuses number at) cells kept place returned = (returned ≡ number) × (place.exit.now ≡ at) × kept

-- so of a count in one cell, and of a verdict
abbrev pub ReadsCount : Answer ℕ → LentCell → LentCell → ℕ → Type 0
ReadsCount answer count = Reads (said answer) (λ (written : ℕ). count.exit.now ≡ written) (Kept count)

abbrev pub ReadsVerdict : Verdict → LentCell → ℕ → Type 0
ReadsVerdict verdict = Reads (said verdict) (λ none. Unit {0}) (Unit {0})

-- What each call for C tells is an outcome that the library's call allows, as C reads it.
pub record TellsWhatIsPromised : Type 0 where
  -- `snow_check`
  pub check : (rule : ℕ) (f : Formula) (place : LentCell) (returned : ℕ) → CheckTold rule f place returned
      → (verdict : Verdict) × Judged (check_order rule f) verdict × ReadsVerdict verdict place returned
  -- `snow_clause`
  pub clause : (n : ℕ) (ls : List ℤ) (asked : ℕ) (start len place : LentCell) (returned : ℕ) → ClauseTold n ls asked start len place returned
      → (verdict : Verdict) × Judged (clause_order n ls asked) verdict
      × Reads (said verdict) (λ none. Clause ls asked start.exit.now len.exit.now) (Kept start × Kept len) place returned
  -- `snow_build`
  pub build : (rule : ℕ) (f : Formula) (classes parents counts tally : LentTable) (count place : LentCell) (returned : ℕ)
      → BuildTold rule f classes parents counts tally count place returned
      → (after : Tally) × (answer : Answer ℕ)
      × Builds rule f (lent_standing classes parents counts tally) (standing (rows_out classes parents counts) after) answer
      × Reads (said answer) (λ (written : ℕ). (count.exit.now ≡ written) × (tally.exit.now ≡ cells_of after))
      (Kept count × Kept tally) place returned
  -- `snow_add`
  pub add : (rule n : ℕ) (es : List ℕ) (classes parents counts tally : LentTable) (clause : List ℤ) (place : LentCell) (returned : ℕ)
      → AddTold rule n es classes parents counts tally clause place returned
      → (after : Tally) × (answer : Answer ℕ)
      × Adds rule n es (lent_standing classes parents counts tally) clause (standing (rows_out classes parents counts) after) answer
      × Reads (said answer) (λ (written : ℕ). tally.exit.now ≡ cells_of after) (Kept tally) place returned
  -- `snow_entry_point`
  pub entry_point : (rule : ℕ) (f : Formula) (r : Rows) (x y : ℕ) (entry rises place : LentCell) (returned : ℕ)
      → EntryTold rule f r x y entry rises place returned
      → (answer : Answer Point) × EntryAnswered rule f r x y answer
      × Reads (entry_said answer) (λ (point : ℕ × ℕ). (entry.exit.now ≡ point.0) × (rises.exit.now ≡ point.1)) (Kept entry × Kept rises) place returned
  -- `snow_entry_points`, `snow_entry_points_by`
  pub entry_points : (rule : ℕ) (scheme : Scheme) (f : Formula) (r : Rows) (x : ℕ) (out : LentTable) (count place : LentCell) (returned : ℕ)
      → EntriesTold rule scheme f r x out count place returned
      → (answer : Answer ℕ) × EntriesListed rule scheme f r x out.entry.now out.exit.now answer × ReadsCount answer count place returned
  -- `snow_set`, `snow_set_by`
  pub set : (rule : ℕ) (scheme : Scheme) (f : Formula) (r : Rows) (x : ℕ) (out : LentTable) (count place : LentCell) (returned : ℕ)
      → SetTold rule scheme f r x out count place returned
      → (answer : Answer ℕ) × SetListed rule scheme f r x out.entry.now out.exit.now answer × ReadsCount answer count place returned
  -- `snow_size`, `snow_size_by`
  pub size : (rule : ℕ) (scheme : Scheme) (f : Formula) (r : Rows) (x : ℕ) (size place : LentCell) (returned : ℕ)
      → SizeTold rule scheme f r x size place returned
      → (answer : Answer ℕ) × Sized rule scheme f r x answer × ReadsCount answer size place returned
  -- `snow_sets`, `snow_sets_by`
  pub sets : (rule : ℕ) (scheme : Scheme) (f : Formula) (r : Rows) (out : LentTable) (count place : LentCell) (returned : ℕ)
      → SetsTold rule scheme f r out count place returned
      → (answer : Answer ℕ) × SetsListed rule scheme f r out.entry.now out.exit.now answer × ReadsCount answer count place returned
  -- `snow_read`
  pub read : (text : List ℕ) (n : LentCell) (prefix : LentTable) (entries : LentCell) (clauses : LentLiterals) (literals place : LentCell) (returned : ℕ)
      → ReadTold text n prefix entries clauses literals place returned
      → (answer : Answer Counts) × ReadIs text prefix.entry.now prefix.exit.now clauses.entry.now clauses.exit.now answer
      × Reads (counts_said answer)
      (λ (counts : ℕ × ℕ × ℕ). (n.exit.now ≡ counts.0) × (entries.exit.now ≡ counts.1) × (literals.exit.now ≡ counts.2))
      (Kept n × Kept entries × Kept literals) place returned
  -- `snow_write`
  pub write : (rule : ℕ) (f : Formula) (text : LentTable) (count place : LentCell) (returned : ℕ) → WriteTold rule f text count place returned
      → (answer : Answer ℕ) × Writes rule f text.entry.now text.exit.now answer × ReadsCount answer count place returned
  -- `snow_path`
  pub path : (rule : ℕ) (f : Formula) (x y : ℕ) (path : List ℕ) (place : LentCell) (returned : ℕ) → PathTold rule f x y path place returned
      → (verdict : Verdict) × PathJudged rule f x y path verdict × ReadsVerdict verdict place returned
  -- `snow_resolution_set`
  pub resolution_set : (rule : ℕ) (f : Formula) (x : ℕ) (out : LentTable) (count place : LentCell) (returned : ℕ) → ResolutionTold rule f x out count place returned
      → (answer : Answer ℕ) × ResolutionListed rule f x out.entry.now out.exit.now answer × ReadsCount answer count place returned
  -- `snow_expand`
  pub expand : (rule : ℕ) (f : Formula) (x : ℕ) (n : LentCell) (prefix : LentTable) (entries : LentCell) (clauses : LentLiterals) (literals place : LentCell) (returned : ℕ)
      → ExpandTold rule f x n prefix entries clauses literals place returned
      → (answer : Answer Counts) × Expands rule f x (result_in prefix clauses) (result_out prefix clauses) answer
      × Reads (counts_said answer)
      (λ (counts : ℕ × ℕ × ℕ). (n.exit.now ≡ counts.0) × (entries.exit.now ≡ counts.1) × (literals.exit.now ≡ counts.2))
      (Kept n × Kept entries × Kept literals) place returned
  -- `snow_check_lists`
  pub check_lists : (rule : ℕ) (f : Formula) (lists : List ℕ) (place : LentCell) (returned : ℕ) → CheckListsTold rule f lists place returned
      → (verdict : Verdict) × ListsChecked rule f lists verdict × ReadsVerdict verdict place returned
  -- `snow_listed_set_by`
  pub listed_set : (rule : ℕ) (scheme : Scheme) (f : Formula) (lists : List ℕ) (x : ℕ) (out : LentTable) (count place : LentCell) (returned : ℕ)
      → ListedSetTold rule scheme f lists x out count place returned
      → (answer : Answer ℕ) × SetByLists rule scheme f lists x out.entry.now out.exit.now answer × ReadsCount answer count place returned
  -- `snow_read_lists`
  pub read_lists : (text : List ℕ) (n : LentCell) (prefix : LentTable) (entries : LentCell) (clauses : LentLiterals) (literals : LentCell) (lists : LentTable) (rows place : LentCell)
      (returned : ℕ) → ReadListsTold text n prefix entries clauses literals lists rows place returned
      → (answer : Answer ListedCounts)
      × ListedReadIs text (prefix.entry.now, clauses.entry.now, lists.entry.now) (prefix.exit.now, clauses.exit.now, lists.exit.now) answer
      × Reads (listed_said answer)
      (λ (counts : ℕ × ℕ × ℕ × ℕ). (n.exit.now ≡ counts.0) × (entries.exit.now ≡ counts.1) × (literals.exit.now ≡ counts.2)
      × (rows.exit.now ≡ counts.3))
      (Kept n × Kept entries × Kept literals × Kept rows) place returned
  -- `snow_write_lists`
  pub write_lists : (rule : ℕ) (f : Formula) (lists : List ℕ) (text : LentTable) (count place : LentCell) (returned : ℕ)
      → WriteListsTold rule f lists text count place returned
      → (answer : Answer ℕ) × WritesListed rule f lists text.entry.now text.exit.now answer × ReadsCount answer count place returned
  -- `snow_store`
  pub store : (rule : ℕ) (f : Formula) (file : LentTable) (count place : LentCell) (returned : ℕ) → StoreTold rule f file count place returned
      → (answer : Answer ℕ) × Stores rule f file.entry.now file.exit.now answer × ReadsCount answer count place returned
  -- `snow_load`
  pub load : (rule : ℕ) (file : List ℕ) (lent lent' : Lent) (n entries literals with_sets place : LentCell) (returned : ℕ)
      → LoadTold rule file lent lent' n entries literals with_sets place returned
      → (answer : Answer Loaded) × Loads rule file lent lent' answer
      × Reads (loaded_said answer)
      (λ held. (n.exit.now ≡ held.0) × (entries.exit.now ≡ held.1) × (literals.exit.now ≡ held.2) × (with_sets.exit.now ≡ tells_sets held.3))
      (Kept n × Kept entries × Kept literals × Kept with_sets) place returned
