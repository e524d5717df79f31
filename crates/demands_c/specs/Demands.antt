-- Demands 1 to 3 as a program in C sees them: 0 means accepted; the tables that snow_build left, lent to snow_set_by; and snow_add after snow_build.
use Rattle.std.specs.Prelude.{ℕ, ◌≤◌, ◌<◌, ◌≡◌, List, ◌↔◌, ℤ, length}
use Rattle.terms.specs.Listed.{Listed}
use Rattle.terms.specs.Overwritten.{overwritten}
use Rattle.terms.specs.Refusals.{NoneOf}
use Rattle.terms.specs.declared.Scheme.{Scheme}
use Rattle.formula.specs.Causes.{clause_order}
use Rattle.formula.specs.Lent.{Formula}
use Rattle.formula_rules.specs.Rules.{read_by, check_order}
use Rattle.forest_tables.specs.Lent.{Rows, rows_lent, rows_out}
use Rattle.forest.specs.Answers.{EntriesBy, MembersBy, DependsBy}
use Rattle.forest.specs.Causes.{entry_order, ask_order, list_order}
use Rattle.sets.specs.Sets.{sets_order}
use Rattle.grow.specs.Grown.{build_order, add_order}
use Rattle.text_qdimacs.specs.Reading.{read_order}
use Rattle.text_qdimacs.specs.Stored.{writing_order}
use Rattle.dqbf_lists.specs.Causes.{check_lists_order}
use Rattle.dqbf_sets.specs.Answers.{set_order}
use Rattle.dqbf_sets.specs.Depends.{DependsOnBy}
use Rattle.dqbf_text.specs.Reading.{listed_read_order}
use Rattle.dqbf_text.specs.Stored.{listed_writing_order}
use Rattle.path_check.specs.Causes.{path_order}
use Rattle.path_resolution.specs.Paths.{resolution_order}
use Rattle.expand.specs.Promise.{result_in, expand_order}
use Rattle.file_format.specs.Causes.{Lent, load_order, store_order}
use Rattle.c_answers.specs.Codes.{scheme_of}
use Rattle.snowcoddle.specs.Promises.{LentCell, LentTable, LentLiterals, Kept, CheckTold, ClauseTold, EntryTold, EntriesTold, SetTold, SizeTold, SetsTold, lent_standing}
use Rattle.snowcoddle.specs.Promises.{BuildTold, AddTold, ReadTold, WriteTold, PathTold, ResolutionTold, ExpandTold, CheckListsTold, ListedSetTold}
use Rattle.snowcoddle.specs.Promises.{ReadListsTold, WriteListsTold, StoreTold, LoadTold}
use Rattle.demands.specs.Words.{IsUniversal}
use Rattle.demands.specs.Demand3.{longer, MayBeAdded}

-- Demand 1, for C: a call returns 0 exactly if no cause of its order holds, since no refusal has that number.
pub record ZeroIsAccepted : Type 0 where
  pub check : (rule : ℕ) (f : Formula) (place : LentCell) (returned : ℕ) → CheckTold rule f place returned → (returned ≡ 0) ↔ NoneOf (check_order rule f)
  pub clause : (n : ℕ) (ls : List ℤ) (asked : ℕ) (start len place : LentCell) (returned : ℕ) → ClauseTold n ls asked start len place returned
      → (returned ≡ 0) ↔ NoneOf (clause_order n ls asked)
  pub build : (rule : ℕ) (f : Formula) (classes parents counts tally : LentTable) (count place : LentCell) (returned : ℕ)
      → BuildTold rule f classes parents counts tally count place returned
      → (returned ≡ 0) ↔ NoneOf (build_order rule f (lent_standing classes parents counts tally))
  pub add : (rule n : ℕ) (es : List ℕ) (classes parents counts tally : LentTable) (clause : List ℤ) (place : LentCell) (returned : ℕ)
      → AddTold rule n es classes parents counts tally clause place returned
      → (returned ≡ 0) ↔ NoneOf (add_order rule n es (lent_standing classes parents counts tally) clause)
  pub entry_point : (rule : ℕ) (f : Formula) (r : Rows) (x y : ℕ) (entry rises place : LentCell) (returned : ℕ)
      → EntryTold rule f r x y entry rises place returned → (returned ≡ 0) ↔ NoneOf (entry_order rule f r x y)
  pub entry_points : (rule : ℕ) (scheme : Scheme) (f : Formula) (r : Rows) (x : ℕ) (out : LentTable) (count place : LentCell) (returned : ℕ)
      → EntriesTold rule scheme f r x out count place returned
      → (returned ≡ 0) ↔ NoneOf (list_order rule f r x (EntriesBy scheme (read_by rule f) r x) out.entry.now)
  pub set : (rule : ℕ) (scheme : Scheme) (f : Formula) (r : Rows) (x : ℕ) (out : LentTable) (count place : LentCell) (returned : ℕ)
      → SetTold rule scheme f r x out count place returned
      → (returned ≡ 0) ↔ NoneOf (list_order rule f r x (MembersBy scheme (read_by rule f) r x) out.entry.now)
  pub size : (rule : ℕ) (scheme : Scheme) (f : Formula) (r : Rows) (x : ℕ) (size place : LentCell) (returned : ℕ)
      → SizeTold rule scheme f r x size place returned → (returned ≡ 0) ↔ NoneOf (ask_order rule f r x)
  pub sets : (rule : ℕ) (scheme : Scheme) (f : Formula) (r : Rows) (out : LentTable) (count place : LentCell) (returned : ℕ)
      → SetsTold rule scheme f r out count place returned → (returned ≡ 0) ↔ NoneOf (sets_order rule scheme f r out.entry.now)
  pub read : (text : List ℕ) (n : LentCell) (prefix : LentTable) (entries : LentCell) (clauses : LentLiterals) (literals place : LentCell) (returned : ℕ)
      → ReadTold text n prefix entries clauses literals place returned
      → (returned ≡ 0) ↔ NoneOf (read_order text prefix.entry.now clauses.entry.now)
  pub write : (rule : ℕ) (f : Formula) (text : LentTable) (count place : LentCell) (returned : ℕ) → WriteTold rule f text count place returned
      → (returned ≡ 0) ↔ NoneOf (writing_order rule f text.entry.now)
  pub path : (rule : ℕ) (f : Formula) (x y : ℕ) (path : List ℕ) (place : LentCell) (returned : ℕ) → PathTold rule f x y path place returned
      → (returned ≡ 0) ↔ NoneOf (path_order rule f x y path)
  pub resolution_set : (rule : ℕ) (f : Formula) (x : ℕ) (out : LentTable) (count place : LentCell) (returned : ℕ) → ResolutionTold rule f x out count place returned
      → (returned ≡ 0) ↔ NoneOf (resolution_order rule f x out.entry.now)
  pub expand : (rule : ℕ) (f : Formula) (x : ℕ) (n : LentCell) (prefix : LentTable) (entries : LentCell) (clauses : LentLiterals) (literals place : LentCell) (returned : ℕ)
      → ExpandTold rule f x n prefix entries clauses literals place returned
      → (returned ≡ 0) ↔ NoneOf (expand_order rule f x (result_in prefix clauses))
  pub check_lists : (rule : ℕ) (f : Formula) (lists : List ℕ) (place : LentCell) (returned : ℕ) → CheckListsTold rule f lists place returned
      → (returned ≡ 0) ↔ NoneOf (check_lists_order rule f lists)
  pub listed_set : (rule : ℕ) (scheme : Scheme) (f : Formula) (lists : List ℕ) (x : ℕ) (out : LentTable) (count place : LentCell) (returned : ℕ)
      → ListedSetTold rule scheme f lists x out count place returned
      → (returned ≡ 0) ↔ NoneOf (set_order rule f lists x (DependsOnBy scheme (read_by rule f) lists x) out.entry.now)
  pub read_lists : (text : List ℕ) (n : LentCell) (prefix : LentTable) (entries : LentCell) (clauses : LentLiterals) (literals : LentCell) (lists : LentTable) (rows place : LentCell)
      (returned : ℕ) → ReadListsTold text n prefix entries clauses literals lists rows place returned
      → (returned ≡ 0) ↔ NoneOf (listed_read_order text (prefix.entry.now, clauses.entry.now, lists.entry.now))
  pub write_lists : (rule : ℕ) (f : Formula) (lists : List ℕ) (text : LentTable) (count place : LentCell) (returned : ℕ)
      → WriteListsTold rule f lists text count place returned → (returned ≡ 0) ↔ NoneOf (listed_writing_order rule f lists text.entry.now)
  pub store : (rule : ℕ) (f : Formula) (file : LentTable) (count place : LentCell) (returned : ℕ) → StoreTold rule f file count place returned
      → (returned ≡ 0) ↔ NoneOf (store_order rule f file.entry.now)
  pub load : (rule : ℕ) (file : List ℕ) (lent lent' : Lent) (n entries literals with_sets place : LentCell) (returned : ℕ)
      → LoadTold rule file lent lent' n entries literals with_sets place returned → (returned ≡ 0) ↔ NoneOf (load_order rule file lent)

-- The list of which L holds is asked for in `out`: with room the call returns 0, its length is in `count` and it stands in front, the rest as it was, and so
-- is `place`; else it returns 14, with 0 in `place`, and all else is as it was.
pub data PutsForC (L : List ℕ → Type 0) (out : LentTable) (count place : LentCell) (returned : ℕ) : Type 0 where
  with_room : (list : List ℕ) → L list → length list ≤ length out.entry.now → returned ≡ 0 → count.exit.now ≡ length list
      → out.exit.now ≡ overwritten list out.entry.now → Kept place → PutsForC L out count place returned
  no_room : (list : List ℕ) → L list → length out.entry.now < length list → returned ≡ 14 → place.exit.now ≡ 0 → Kept count → Kept out
      → PutsForC L out count place returned

-- Demand 2, for C: where snow_build returned 0, snow_set_by on the tables that it left lists exactly what depends on x by reach, by the scheme that its number
-- asks for.
abbrev pub SetForC : Type 0
SetForC =
    (rule number : ℕ) (f : Formula) (classes parents counts tally : LentTable) (rows built : LentCell) (x : ℕ) (out : LentTable) (count place : LentCell) (returned : ℕ)
    → BuildTold rule f classes parents counts tally rows built 0 → IsUniversal rule f x
    → SetTold rule (scheme_of number) f (rows_out classes parents counts) x out count place returned
    → PutsForC (Listed (DependsBy (scheme_of number) (read_by rule f) x)) out count place returned

-- Demand 3, for C: where snow_build returned 0, snow_add on what it left returns 0, and leaves, in every row of every table and in the tally, what snow_build
-- leaves of the longer list from the tables that were first lent; that returns 0 too.
abbrev pub AddForC : Type 0
AddForC =
    (rule : ℕ) (f : Formula) (clause : List ℤ) (classes parents counts tally : LentTable) (rows place : LentCell)
    (classes' parents' counts' tally' : LentTable) (place' : LentCell) (returned' : ℕ) (classes'' parents'' counts'' tally'' : LentTable) (rows'' place'' : LentCell) (returned'' : ℕ)
    → BuildTold rule f classes parents counts tally rows place 0 → MayBeAdded f clause
    → rows_lent classes' parents' counts' ≡ rows_out classes parents counts → tally'.entry.now ≡ tally.exit.now
    → AddTold rule f.n f.prefix classes' parents' counts' tally' clause place' returned'
    → rows_lent classes'' parents'' counts'' ≡ rows_lent classes parents counts → tally''.entry.now ≡ tally.entry.now
    → BuildTold rule (longer f clause) classes'' parents'' counts'' tally'' rows'' place'' returned''
    → (returned' ≡ 0) × (returned'' ≡ 0) × (rows_out classes' parents' counts' ≡ rows_out classes'' parents'' counts'')
    × (tally'.exit.now ≡ tally''.exit.now)

pub record DemandsForC : Type 0 where
  pub zero : ZeroIsAccepted
  pub set : SetForC
  pub add : AddForC
