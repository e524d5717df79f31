-- The claims of the requests (docs/RULES.md, "The requests"), each over the promises of the calls, by the number of its request.
use Rattle.std.specs.Prelude.{ℕ, ◌+◌, ◌≤◌, ◌<◌, ◌%◌, ◌≡◌, Bool, false, ◌↔◌, ◌≢◌, ℤ, length, get_or, take, Ok, Err}
use mathlib.Core.List.{List, [], ◌∷◌, Memᴰ}
use Rattle.std.proofs.lemmas.List.Edits.{sets}
use Rattle.terms.specs.Limits.{clause_entries}
use Rattle.terms.specs.Listed.{Listed}
use Rattle.terms.specs.Overwritten.{overwritten}
use Rattle.terms.specs.Refusals.{None, NoneOf, Judged}
use Rattle.terms.specs.Says.{Answer, Verdict, accepted}
use Rattle.terms.specs.declared.Counts.{Counts}
use Rattle.terms.specs.declared.ListedCounts.{ListedCounts}
use Rattle.terms.specs.declared.Loaded.{Loaded}
use Rattle.terms.specs.declared.Point.{Point}
use Rattle.terms.specs.declared.Refusal.{Refusal}
use Rattle.terms.specs.declared.Scheme.{Scheme}
use Rattle.terms.specs.declared.Scheme.TheVariants.{Standard, Strict}
use Rattle.formula.specs.Lent.{Formula, formula_of}
use Rattle.formula.specs.Meaning.{always_true, clauses}
use Rattle.formula_rules.specs.Rules.{read_by, ruled_prefix, check_order}
use Rattle.forest_tables.specs.Formula.{signed}
use Rattle.forest_tables.specs.Lent.{Rows, variables_of}
use Rattle.forest.specs.Answers.{DependsBy, EntryAnswered, EntriesListed, SetListed, Sized}
use Rattle.sets.specs.Sets.{SetsListed}
use Rattle.grow_refusals.specs.Admitted.{AddedCause}
use Rattle.grow.specs.Grown.{Standing, existentials, Builds, Adds}
use Rattle.grow_reduced.specs.Reduced.{reduced_clause, Reduction}
use Rattle.text_qdimacs.specs.Stored.{Writes}
use Rattle.dqbf_lists.specs.Answers.{ListsChecked}
use Rattle.dqbf_lists.specs.Lists.{list_entries}
use Rattle.dqbf_sets.specs.Answers.{SetByLists}
use Rattle.dqbf_text.specs.Reading.{Tables, ListedReadIs}
use Rattle.dqbf_text.specs.Stored.{WritesListed}
use Rattle.path_check.specs.Causes.{PathJudged}
use Rattle.path_resolution.specs.Paths.{ResolutionListed}
use Rattle.expand_clauses.specs.Total.{literals, literal_total}
use Rattle.expand.specs.Promise.{ResultTables, Expands}
use Rattle.file_format.specs.Causes.{Lent, Roomy}
use Rattle.file_format.specs.Layout.{ForestRows}
use Rattle.file_format.specs.Places.{formula_held}
use Rattle.file_format.specs.Promises.{Stores, stored_in, Loads, WithoutSets}
use Rattle.demands.specs.Words.{Built, IsUniversal}

-- y is in the list that a call wrote in front in a table, of which it told the length
abbrev pub Wrote : ℕ → List ℕ → ℕ → Type 0
Wrote count after y = Memᴰ y (take count after)

-- Request 3. The size of a set is the length of its list, whatever forest is lent.
abbrev pub SizeIsLength : Type 0
SizeIsLength =
    (rule : ℕ) (scheme : Scheme) (f : Formula) (r : Rows) (x size count : ℕ) (before after : List ℕ)
    → Sized rule scheme f r x (Ok size) → SetListed rule scheme f r x before after (Ok count) → size ≡ count

-- Request 4. What the set call writes by the strict scheme is among what it writes by the standard one.
abbrev pub StrictWithin : Type 0
StrictWithin =
    (rule : ℕ) (f : Formula) (r : Rows) (x count count' : ℕ) (before after before' after' : List ℕ)
    → SetListed rule Strict f r x before after (Ok count) → SetListed rule Standard f r x before' after' (Ok count')
    → (y : ℕ) → Wrote count after y → Wrote count' after' y

-- x stands in one sign only: no clause that is not always true has the other
abbrev pub OneSign : Formula → ℕ → Type 0
OneSign f x =
    (sign : Bool) × ((clause : List ℤ) → Memᴰ clause (clauses f.clauses) → always_true clause ≡ false → Memᴰ (signed sign x) clause → ⊥)

-- Of such an x the strict set is empty, it has no strict entry points, and the strict size is 0.
abbrev pub OneSignIsEmpty : Type 0
OneSignIsEmpty =
    (rule : ℕ) (f : Formula) (r : Rows) (x count : ℕ) → OneSign f x
    → ((before after : List ℕ) → SetListed rule Strict f r x before after (Ok count) → count ≡ 0)
    × ((before after : List ℕ) → EntriesListed rule Strict f r x before after (Ok count) → count ≡ 0)
    × (Sized rule Strict f r x (Ok count) → count ≡ 0)

-- Request 6. What store wrote, load gives back into tables with room: the formula as it was lent, the rows of its forest, and no sets.
abbrev pub FileReadsBack : Type 0
FileReadsBack =
    (rule : ℕ) (f : Formula) (before after : List ℕ) (count : ℕ) (lent lent' : Lent) (answer : Answer Loaded)
    → Stores rule f before after (Ok count) → Roomy f lent → Loads rule (take count after) lent lent' answer
    → (answer ≡ Ok (record { n = f.n; prefix = length f.prefix; clauses = length f.clauses; sets = false }))
    × ((r : Rows) × ForestRows (read_by rule f) r × (lent' ≡ stored_in lent f r))

-- a file with the 16-bit word at a place changed
abbrev pub with_word : List ℕ → ℕ → ℕ → ℕ → List ℕ
with_word file place low high = sets file place (low ∷ high ∷ [])

-- Of what store wrote, with one 16-bit word changed, every load is refused, under whatever rule and whatever is lent.
abbrev pub ChangedWordRefused : Type 0
ChangedWordRefused =
    (rule rule' : ℕ) (f : Formula) (before after : List ℕ) (count place low high : ℕ) → Stores rule f before after (Ok count)
    → place % 2 ≡ 0 → place + 1 < count → low < 256 → high < 256 → with_word (take count after) place low high ≢ take count after
    → (lent lent' : Lent) (answer : Answer Loaded) → Loads rule' (with_word (take count after) place low high) lent lent' answer
    → (refusal : Refusal) × (answer ≡ Err refusal)

-- Request 14. What load took of a file of bytes, with sets or without, store writes again, into a table as long as the file: the file without its sets, with
-- the closing word refitted, and nothing else changed.
abbrev pub WrittenAgain : Type 0
WrittenAgain =
    (rule : ℕ) (file : List ℕ) (lent lent' : Lent) (held : Loaded) (before after : List ℕ) (answer : Answer ℕ)
    → ((i : ℕ) → i < length file → get_or file i 0 < 256) → Loads rule file lent lent' (Ok held)
    → length file ≤ length before
    → Stores rule (formula_of held.n (take held.prefix lent'.prefix) (take held.clauses lent'.clauses)) before after answer
    → (count : ℕ) × (answer ≡ Ok count) × WithoutSets file held.sets (take count after)

-- Request 7. Where rule 1 accepts n, the lengths and the prefix, every call that takes a rule promises the same under rule 2: it answers and leaves the same.
abbrev pub RuleOneAccepts : Formula → Type 0
RuleOneAccepts f = NoneOf (ruled_prefix 1 f.n f.prefix (length f.clauses))

pub record RulesAgree : Type 0 where
  pub check : (f : Formula) → RuleOneAccepts f → (v : Verdict) → Judged (check_order 1 f) v ↔ Judged (check_order 2 f) v
  pub build : (f : Formula) → RuleOneAccepts f → (s s' : Standing) (a : Answer ℕ) → Builds 1 f s s' a ↔ Builds 2 f s s' a
  pub add : (n : ℕ) (es : List ℕ) (clause : List ℤ) → RuleOneAccepts (formula_of n es clause) → (s s' : Standing) (a : Answer ℕ)
      → Adds 1 n es s clause s' a ↔ Adds 2 n es s clause s' a
  pub entry_point : (n : ℕ) (es : List ℕ) → RuleOneAccepts (formula_of n es []) → (r : Rows) (x y : ℕ) (a : Answer Point)
      → EntryAnswered 1 (formula_of n es []) r x y a ↔ EntryAnswered 2 (formula_of n es []) r x y a
  pub entry_points : (f : Formula) → RuleOneAccepts f → (scheme : Scheme) (r : Rows) (x : ℕ) (before after : List ℕ) (a : Answer ℕ)
      → EntriesListed 1 scheme f r x before after a ↔ EntriesListed 2 scheme f r x before after a
  pub set : (f : Formula) → RuleOneAccepts f → (scheme : Scheme) (r : Rows) (x : ℕ) (before after : List ℕ) (a : Answer ℕ)
      → SetListed 1 scheme f r x before after a ↔ SetListed 2 scheme f r x before after a
  pub size : (f : Formula) → RuleOneAccepts f → (scheme : Scheme) (r : Rows) (x : ℕ) (a : Answer ℕ) → Sized 1 scheme f r x a ↔ Sized 2 scheme f r x a
  pub sets : (f : Formula) → RuleOneAccepts f → (scheme : Scheme) (r : Rows) (before after : List ℕ) (a : Answer ℕ)
      → SetsListed 1 scheme f r before after a ↔ SetsListed 2 scheme f r before after a
  pub write : (f : Formula) → RuleOneAccepts f → (out out' : List ℕ) (a : Answer ℕ) → Writes 1 f out out' a ↔ Writes 2 f out out' a
  pub path : (f : Formula) → RuleOneAccepts f → (x y : ℕ) (path : List ℕ) (v : Verdict) → PathJudged 1 f x y path v ↔ PathJudged 2 f x y path v
  pub resolution_set : (f : Formula) → RuleOneAccepts f → (x : ℕ) (before after : List ℕ) (a : Answer ℕ)
      → ResolutionListed 1 f x before after a ↔ ResolutionListed 2 f x before after a
  pub expand : (f : Formula) → RuleOneAccepts f → (x : ℕ) (out out' : ResultTables) (a : Answer Counts) → Expands 1 f x out out' a ↔ Expands 2 f x out out' a
  pub store : (f : Formula) → RuleOneAccepts f → (before after : List ℕ) (a : Answer ℕ) → Stores 1 f before after a ↔ Stores 2 f before after a
  pub load : (file : List ℕ) → RuleOneAccepts (formula_held file) → (lent lent' : Lent) (a : Answer Loaded) → Loads 1 file lent lent' a ↔ Loads 2 file lent lent' a
  pub check_lists : (f : Formula) (lists : List ℕ) → length lists ≤ list_entries → RuleOneAccepts f → (v : Verdict)
      → ListsChecked 1 f lists v ↔ ListsChecked 2 f lists v
  pub listed_set : (f : Formula) (lists : List ℕ) → length lists ≤ list_entries → RuleOneAccepts f
      → (scheme : Scheme) (x : ℕ) (before after : List ℕ) (a : Answer ℕ)
      → SetByLists 1 scheme f lists x before after a ↔ SetByLists 2 scheme f lists x before after a

-- Request 8. An accepted path is a dependency,
abbrev pub PathIsDependency : Type 0
PathIsDependency =
    (rule : ℕ) (f : Formula) (x y : ℕ) (path : List ℕ) → PathJudged rule f x y path accepted → DependsBy Standard (read_by rule f) x y

-- and of a formula that check accepts every dependency has a path that is accepted, and is no longer than the number of existentials.
abbrev pub DependencyHasPath : Type 0
DependencyHasPath =
    (rule : ℕ) (f : Formula) (x y : ℕ) → Judged (check_order rule f) accepted → IsUniversal rule f x → DependsBy Standard (read_by rule f) x y
    → (path : List ℕ) × (length path ≤ existentials (variables_of (read_by rule f)))
    × ((verdict : Verdict) → PathJudged rule f x y path verdict → verdict ≡ accepted)

-- Request 9. The clauses that expand wrote have as many literals together as follows from the input, by the standard set of x; and check accepts what it
-- wrote, under either rule.
abbrev pub ExpandedTotal : Type 0
ExpandedTotal =
    (rule : ℕ) (f : Formula) (x : ℕ) (out out' : ResultTables) (counts : Counts)
    → Expands rule f x out out' (Ok counts)
    → (members : List ℕ) × Listed (DependsBy Standard (read_by rule f) x) members
    × (literals (clauses (take counts.clauses out'.clauses)) ≡ literal_total x members f.clauses)

abbrev pub ExpandedIsAccepted : Type 0
ExpandedIsAccepted =
    (rule : ℕ) (f : Formula) (x : ℕ) (out out' : ResultTables) (counts : Counts)
    → Expands rule f x out out' (Ok counts)
    → let g = formula_of counts.n (take counts.prefix out'.prefix) (take counts.clauses out'.clauses) in NoneOf (check_order 1 g) × NoneOf (check_order 2 g)

-- Request 11. Two clause tables that check accepts with one prefix, the second with the clauses of the first, none, some or all of them reduced, in any
-- order.
pub record Reduced (rule n : ℕ) (es : List ℕ) (ls ls' : List ℤ) : Type 0 where
  pub reduction : Reduction (variables_of (read_by rule (formula_of n es ls))) ls ls'
  pub accepted : NoneOf (check_order rule (formula_of n es ls))
  pub accepted' : NoneOf (check_order rule (formula_of n es ls'))

-- Of both, build answers and leaves the same, and every set and size and all sets are the same, by either scheme, from whatever forest is lent.
pub record ReducedAlike (rule : ℕ) (f g : Formula) : Type 0 where
  pub build : (s s' s'' : Standing) (a b : Answer ℕ) → Builds rule f s s' a → Builds rule g s s'' b → (a ≡ b) × (s' ≡ s'')
  pub set : (scheme : Scheme) (r : Rows) (x : ℕ) (before after after' : List ℕ) (a b : Answer ℕ)
      → SetListed rule scheme f r x before after a → SetListed rule scheme g r x before after' b → (a ≡ b) × (after ≡ after')
  pub size : (scheme : Scheme) (r : Rows) (x : ℕ) (a b : Answer ℕ) → Sized rule scheme f r x a → Sized rule scheme g r x b → a ≡ b
  pub sets : (scheme : Scheme) (r : Rows) (before after after' : List ℕ) (a b : Answer ℕ)
      → SetsListed rule scheme f r before after a → SetsListed rule scheme g r before after' b → (a ≡ b) × (after ≡ after')

abbrev pub ReducingChangesNothing : Type 0
ReducingChangesNothing =
    (rule n : ℕ) (es : List ℕ) (ls ls' : List ℤ) → Reduced rule n es ls ls' → ReducedAlike rule (formula_of n es ls) (formula_of n es ls')

-- And adding a clause reduced answers and leaves what adding it does.
abbrev pub AddingReduced : Type 0
AddingReduced =
    (rule n : ℕ) (es : List ℕ) (clause : List ℤ) (s s' s'' : Standing) (a b : Answer ℕ) → length clause ≤ clause_entries → None (AddedCause n clause)
    → Adds rule n es s clause s' a → Adds rule n es s (reduced_clause (variables_of (read_by rule (formula_of n es []))) clause) s'' b → (a ≡ b) × (s' ≡ s'')

-- Request 12. Where there are no lists, the set by lists is the set by the formula's own forest, by either scheme: the same answer, written the same.
abbrev pub NoListsAgree : Type 0
NoListsAgree =
    (rule : ℕ) (scheme : Scheme) (f : Formula) (s : Standing) (x : ℕ) (before after after' : List ℕ) (answer answer' : Answer ℕ)
    → Built rule f s → IsUniversal rule f x → SetByLists rule scheme f [] x before after answer
    → SetListed rule scheme f s.rows x before after' answer' → (answer ≡ answer') × (after ≡ after')

-- What write wrote with lists, read gives back.
abbrev pub ListedTextReadsBack : Type 0
ListedTextReadsBack =
    (rule : ℕ) (f : Formula) (lists out out' : List ℕ) (bytes : ℕ) (before after : Tables) (answer : Answer ListedCounts)
    → WritesListed rule f lists out out' (Ok bytes)
    → length f.prefix ≤ length before.0 → length f.clauses ≤ length before.1 → length lists ≤ length before.2
    → ListedReadIs (take bytes out') before after answer
    → (answer ≡ Ok (record { n = f.n; prefix = length f.prefix; clauses = length f.clauses; lists = length lists })) × (after.0 ≡ overwritten f.prefix before.0)
    × (after.1 ≡ overwritten f.clauses before.1) × (after.2 ≡ overwritten lists before.2)

-- Request 13. What the resolution-path call wrote is among what the set call writes by the strict scheme, from the formula's own forest.
abbrev pub ResolutionWithinStrict : Type 0
ResolutionWithinStrict =
    (rule : ℕ) (f : Formula) (s : Standing) (x count count' : ℕ) (before after before' after' : List ℕ)
    → Built rule f s → ResolutionListed rule f x before after (Ok count) → SetListed rule Strict f s.rows x before' after' (Ok count')
    → (y : ℕ) → Wrote count after y → Wrote count' after' y

-- The claims, whole.
pub record Requests : Type 0 where
  pub size_is_length : SizeIsLength
  pub strict_within : StrictWithin
  pub one_sign : OneSignIsEmpty
  pub file_reads_back : FileReadsBack
  pub changed_word : ChangedWordRefused
  pub written_again : WrittenAgain
  pub rules : RulesAgree
  pub path : PathIsDependency
  pub has_path : DependencyHasPath
  pub total : ExpandedTotal
  pub expanded : ExpandedIsAccepted
  pub reduced : ReducingChangesNothing
  pub adding_reduced : AddingReduced
  pub no_lists : NoListsAgree
  pub listed_text : ListedTextReadsBack
  pub resolution : ResolutionWithinStrict
