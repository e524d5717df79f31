-- Demand 1. Every call refuses what breaks the rules, with a number and a place: each number for its stated causes and never otherwise. After a refusal
-- every lent table holds exactly what it held. And nothing is left open: any two outcomes that the promise of a call allows are equal. That a call takes
-- anything and ends is in its contract, which has no `requires`.
use Rattle.std.specs.Prelude.{ℕ, ◌≡◌, List, [], ◌↔◌, ◌≢◌, ℤ, get_or}
use Rattle.std.specs.Borrow.{Bor}
use Rattle.terms.specs.Answers.{verdict_by}
use Rattle.terms.specs.Refusals.{Causes, FirstOf, NoneOf, Judged}
use Rattle.terms.specs.Says.{Said, said, entry_said, counts_said, listed_said, loaded_said}
use Rattle.terms.specs.declared.Scheme.{Scheme}
use Rattle.formula.specs.Causes.{clause_order}
use Rattle.formula.specs.Clause.{begin_of, StandsIn, ClausePart}
use Rattle.formula.specs.Lent.{Formula}
use Rattle.formula.specs.Meaning.{clauses}
use Rattle.formula_rules.specs.Rules.{read_by, check_order}
use Rattle.forest_tables.specs.Lent.{Rows}
use Rattle.forest.specs.Answers.{EntriesBy, MembersBy, EntryAnswered, EntriesListed, SetListed, Sized}
use Rattle.forest.specs.Causes.{entry_order, ask_order, list_order}
use Rattle.sets.specs.Sets.{sets_order, SetsListed}
use Rattle.grow.specs.Grown.{Standing, build_order, add_order, Builds, Adds}
use Rattle.text_qdimacs.specs.Reading.{read_order, ReadIs}
use Rattle.text_qdimacs.specs.Stored.{writing_order, Writes}
use Rattle.dqbf_lists.specs.Answers.{ListsChecked}
use Rattle.dqbf_lists.specs.Causes.{check_lists_order}
use Rattle.dqbf_sets.specs.Answers.{set_order, SetByLists}
use Rattle.dqbf_sets.specs.Depends.{DependsOnBy}
use Rattle.dqbf_text.specs.Reading.{Tables, listed_read_order, ListedReadIs}
use Rattle.dqbf_text.specs.Stored.{listed_writing_order, WritesListed}
use Rattle.path_check.specs.Causes.{path_order, PathJudged}
use Rattle.path_resolution.specs.Paths.{resolution_order, ResolutionListed}
use Rattle.expand.specs.Promise.{ResultTables, expand_order, Expands}
use Rattle.file_format.specs.Causes.{Lent, load_order, store_order}
use Rattle.file_format.specs.Promises.{Stores, Loads}

-- What demand 1 asks of a call, by its order of causes, what it is lent to write into, what its answer says, and its promise, which tells what it may leave
-- and answer.
pub record Held {L A Values : Type 0} (order : List Causes) (lent : L) (said : A → Said Values) (Promise : L → A → Type 0) : Type 0 where
  -- any two outcomes are equal, in the answer and in all that is left
  pub settled : (left left' : L) (answer answer' : A) → Promise left answer → Promise left' answer' → (answer ≡ answer') × (left ≡ left')
  -- it accepts exactly if no cause holds
  pub accepts : (left : L) (answer : A) → Promise left answer → (verdict_by (said answer) ≡ Said.gives tt) ↔ NoneOf order
  -- it refuses with a number at a place exactly if these are of the first cause in its order
  pub refuses : (left : L) (answer : A) → Promise left answer → (number place : ℕ)
      → (verdict_by (said answer) ≡ Said.refuses number place) ↔ FirstOf order number place
  -- then all that was lent is as it was
  pub keeps : (left : L) (answer : A) → Promise left answer → (number place : ℕ) → verdict_by (said answer) ≡ Said.refuses number place → left ≡ lent
  -- and the number is not 0, which is that of acceptance
  pub numbers : (number place : ℕ) → FirstOf order number place → number ≢ 0

-- so of a call that is lent nothing to write into
abbrev pub HeldAlone : {A Values : Type 0} → List Causes → (A → Said Values) → (A → Type 0) → Type 0
HeldAlone order said Promise = Held {L = Unit {0}} order tt said (λ left. Promise)

-- The clause call returns a part of the table and no verdict: any two parts are equal, in their entries and in where they stand; the part is the clause
-- where the call for its verdict accepts, and empty where that refuses.
pub record ClauseHeld (n : ℕ) (table : Bor (List ℤ)) (asked : ℕ) : Type 0 where
  pub settled : (part part' : Bor (List ℤ)) → ClausePart n table asked part → ClausePart n table asked part'
      → (part.now ≡ part'.now) × (part.ref_ptr ≡ part'.ref_ptr)
  pub given : (part : Bor (List ℤ)) → ClausePart n table asked part → NoneOf (clause_order n table.now asked)
      → (part.now ≡ get_or (clauses table.now) asked []) × StandsIn table (begin_of (clauses table.now) asked) part
  pub none : (part : Bor (List ℤ)) → ClausePart n table asked part → (number place : ℕ)
      → FirstOf (clause_order n table.now asked) number place → part.now ≡ []

-- Demand 1 for every call. Above each field stand the function of the library and those for C that are the call.
pub record Demand1 : Type 0 where
  -- `formula_rules::check`, `snow_check`
  pub check : (rule : ℕ) (f : Formula) → HeldAlone {Values = Unit {0}} (check_order rule f) said (Judged (check_order rule f))
  -- `formula_checks::clause_verdict`, `snow_clause`
  pub clause_verdict : (n : ℕ) (ls : List ℤ) (asked : ℕ) → HeldAlone {Values = Unit {0}} (clause_order n ls asked) said (Judged (clause_order n ls asked))
  -- `formula_checks::clause`
  pub clause : (n : ℕ) (table : Bor (List ℤ)) (asked : ℕ) → ClauseHeld n table asked
  -- `grow::build`, `snow_build`
  pub build : (rule : ℕ) (f : Formula) (s : Standing) → Held (build_order rule f s) s said (Builds rule f s)
  -- `grow::add`, `snow_add`
  pub add : (rule n : ℕ) (es : List ℕ) (s : Standing) (clause : List ℤ) → Held (add_order rule n es s clause) s said (Adds rule n es s clause)
  -- `forest::entry_point`, `snow_entry_point`
  pub entry_point : (rule : ℕ) (f : Formula) (r : Rows) (x y : ℕ) → HeldAlone (entry_order rule f r x y) entry_said (EntryAnswered rule f r x y)
  -- `forest::entry_points`, `snow_entry_points`, `snow_entry_points_by`
  pub entry_points : (rule : ℕ) (scheme : Scheme) (f : Formula) (r : Rows) (x : ℕ) (out : List ℕ)
      → Held (list_order rule f r x (EntriesBy scheme (read_by rule f) r x) out) out said (EntriesListed rule scheme f r x out)
  -- `forest::set_of`, `snow_set`, `snow_set_by`
  pub set : (rule : ℕ) (scheme : Scheme) (f : Formula) (r : Rows) (x : ℕ) (out : List ℕ)
      → Held (list_order rule f r x (MembersBy scheme (read_by rule f) r x) out) out said (SetListed rule scheme f r x out)
  -- `forest::set_size`, `snow_size`, `snow_size_by`
  pub size : (rule : ℕ) (scheme : Scheme) (f : Formula) (r : Rows) (x : ℕ) → HeldAlone (ask_order rule f r x) said (Sized rule scheme f r x)
  -- `sets::sets`, `snow_sets`, `snow_sets_by`
  pub sets : (rule : ℕ) (scheme : Scheme) (f : Formula) (r : Rows) (out : List ℕ)
      → Held (sets_order rule scheme f r out) out said (SetsListed rule scheme f r out)
  -- `text_qdimacs::read`, `snow_read`
  pub read : (text prefix : List ℕ) (clauses : List ℤ)
      → Held {L = List ℕ × List ℤ} (read_order text prefix clauses) (prefix, clauses) counts_said (λ left. ReadIs text prefix left.0 clauses left.1)
  -- `text_qdimacs::write`, `snow_write`
  pub write : (rule : ℕ) (f : Formula) (out : List ℕ) → Held (writing_order rule f out) out said (Writes rule f out)
  -- `path_check::path_verdict`, `snow_path`
  pub path : (rule : ℕ) (f : Formula) (x y : ℕ) (path : List ℕ) → HeldAlone (path_order rule f x y path) said (PathJudged rule f x y path)
  -- `path_resolution::resolution_set`, `snow_resolution_set`
  pub resolution_set : (rule : ℕ) (f : Formula) (x : ℕ) (out : List ℕ) → Held (resolution_order rule f x out) out said (ResolutionListed rule f x out)
  -- `expand::expand`, `snow_expand`
  pub expand : (rule : ℕ) (f : Formula) (x : ℕ) (out : ResultTables) → Held (expand_order rule f x out) out counts_said (Expands rule f x out)
  -- `file_write::store`, `snow_store`
  pub store : (rule : ℕ) (f : Formula) (out : List ℕ) → Held (store_order rule f out) out said (Stores rule f out)
  -- `file_read::load`, `snow_load`
  pub load : (rule : ℕ) (file : List ℕ) (lent : Lent) → Held (load_order rule file lent) lent loaded_said (Loads rule file lent)
  -- `dqbf_lists::check`, `snow_check_lists`
  pub check_lists : (rule : ℕ) (f : Formula) (lists : List ℕ) → HeldAlone (check_lists_order rule f lists) said (ListsChecked rule f lists)
  -- `dqbf_sets::set_of`, `snow_listed_set_by`
  pub listed_set : (rule : ℕ) (scheme : Scheme) (f : Formula) (lists : List ℕ) (x : ℕ) (out : List ℕ)
      → Held (set_order rule f lists x (DependsOnBy scheme (read_by rule f) lists x) out) out said (SetByLists rule scheme f lists x out)
  -- `dqbf_text::read`, `snow_read_lists`
  pub read_lists : (text : List ℕ) (before : Tables) → Held (listed_read_order text before) before listed_said (ListedReadIs text before)
  -- `dqbf_text::write`, `snow_write_lists`
  pub write_lists : (rule : ℕ) (f : Formula) (lists out : List ℕ) → Held (listed_writing_order rule f lists out) out said (WritesListed rule f lists out)
