-- What the functions on one line and on a whole text promise, in the grammar's words, for the line that stands at a place of a text.
use Rattle.terms.specs.Says.{Answer, fault_number}
use Rattle.terms.specs.declared.ListedCounts.{ListedCounts}
use Rattle.std.specs.Prelude.{ℕ, ◌+◌, ◌≤◌, ◌≡◌, Bool, true, false, List, [], ◌∷◌, length, drop, ℤ, Option, None, Some, Result, Ok, Err}
use Rattle.std.proofs.Math.Option.{some}
use Rattle.std.proofs.lemmas.List.Edits.{sets}
use Rattle.text_lines.specs.declared.Stage.{Stage}
use Rattle.text_lines.specs.declared.Stage.TheVariants.{Body}
use Rattle.text_words.specs.declared.Row.{Row}
use Rattle.text_words.specs.Words.{LF, pieces}
use Rattle.text_words.specs.InnerNumbers.{entries_of, variables}
use Rattle.text_words.specs.InnerPlaces.{line_at, words_at, Passed, WholeRow, NoRow}
use Rattle.text_words.specs.InnerExpected.{Goes}
use Rattle.text_lines.specs.InnerSteps.{announced_at}
use Rattle.terms.specs.Refusals.{First}
use Rattle.text_lines.specs.Format.{LineCause}
use Rattle.dqbf_text.specs.declared.Onward.{Onward}
use Rattle.terms.specs.declared.Fault as terms
use Rattle.dqbf_text.specs.Format.{LETTER-D, ListLine, ListedText, ListedFollow}
use Rattle.dqbf_text.specs.InnerGrammar.{ListedLine, ListedFault}
use Rattle.dqbf_text.specs.Reading.{Tables}

-- The numbers of a list line, from the place after its letter on: y, its universals and 0, stored in the table of lists from a row on.
pub record WholeList (text : List ℕ) (at from : ℕ) (before after : List ℕ) (next count : ℕ) : Type 0 where
  pub row : WholeRow variables text at from before after next count
  pub y : ℕ
  pub second : ℕ
  pub others : List ℕ
  pub are : row.entries ≡ y ∷ second ∷ others

-- They are no such numbers: no row, or the closing 0 alone.
pub data NoList (text : List ℕ) (at : ℕ) : Type 0 where
  no_row : NoRow variables text at → NoList text at
  alone : {entries : List ℕ} → entries_of variables (words_at text at) ≡ some entries → length entries ≤ 1 → NoList text at

abbrev pub ListIs : List ℕ → ℕ → ℕ → List ℕ → List ℕ → Option Row → Type 0
ListIs text at from before after None = NoList text at
ListIs text at from before after (Some row) = WholeList text at from before after row.next row.count

-- No list line may stand at a stage at a place, or none stands there.
abbrev pub Unlisted : Stage → List ℕ → ℕ → Type 0
Unlisted stage text at = (n m : ℕ) (l : List ℕ) → stage ≡ Body n m 0 → ListLine (line_at text at) l → ⊥

-- Whether a line begins with `d` where list lines may stand.
pub record ListMark (stage : Stage) (text : List ℕ) (at next : ℕ) : Type 0 where
  pub n : ℕ
  pub m : ℕ
  pub stands : stage ≡ Body n m 0
  pub goes : Goes (LETTER-D ∷ []) text at next

abbrev pub ListMarkIs : Stage → List ℕ → ℕ → Option ℕ → Type 0
ListMarkIs stage text at None = Unlisted stage text at
ListMarkIs stage text at (Some next) = ListMark stage text at next

-- A quantifier line after a list line: the entries of the prefix table were counted before the line, and after it.
pub record Late (listed : Bool) (before after : ℕ) : Type 0 where
  pub after_list : listed ≡ true
  pub counted : before ≡ after → ⊥

abbrev pub LateIs : Bool → ℕ → ℕ → Bool → Type 0
LateIs listed before after true = Late listed before after
LateIs listed before after false = listed ≡ true → before ≡ after

-- How many entries stand in the prefix table, in the clause table and in the table of lists.
abbrev pub Counts : Type 0
Counts = ℕ × ℕ × ℕ

-- Each of them is no more than a place.
abbrev pub Few : Counts → ℕ → Type 0
Few counts at = (counts.0 ≤ at) × (counts.1 ≤ at) × (counts.2 ≤ at)

-- A table is filled further: by these entries, of which there are now so many more.
pub record Adds {A : Type 0} (entries : List A) (from count : ℕ) (before after : List A) : Type 0 where
  pub counted : count ≡ from + length entries
  pub stored : after ≡ sets before from entries

-- The line at a place may stand there: the stage it leads to, the next line, and what it added to the tables.
pub record Went (listed : Bool) (stage : Stage) (text : List ℕ) (at : ℕ) (from : Counts) (before after : Tables) (listed' : Bool) (stage' : Stage)
    (next : ℕ) (counts : Counts) : Type 0 where
  pub p : List ℕ
  pub c : List ℤ
  pub l : List ℕ
  pub line : ListedLine listed stage (line_at text at) listed' stage' p l c
  pub passed : Passed text at next
  pub prefix_adds : Adds p from.0 counts.0 before.0 after.0
  pub clauses_adds : Adds c from.1 counts.1 before.1 after.1
  pub lists_adds : Adds l from.2 counts.2 before.2 after.2
  pub few : Few counts next

-- What a line makes of a stage and three tables: a fault, or the next stage.
abbrev pub OnwardIs : Bool → Stage → List ℕ → ℕ → Counts → Tables → Tables → Result Onward terms.Fault → Type 0
OnwardIs listed stage text at from before after (Err fault) = ListedFault (fault_number fault) listed stage (pieces LF (drop at text))
OnwardIs listed stage text at from before after (Ok onward) =
    Went listed stage text at from before after onward.listed onward.step.stage onward.step.next (onward.step.entries, onward.step.literals, onward.rows)

-- A line that is no list line, and the two tables to which it may add.
abbrev pub PlainIs : Bool → Stage → List ℕ → ℕ → Counts → List ℕ × List ℤ → List ℕ × List ℤ → Result Onward terms.Fault → Type 0
PlainIs listed stage text at from before after r =
    (lists : List ℕ) → OnwardIs listed stage text at from (before.0, before.1, lists) (after.0, after.1, lists) r

-- What a scan of a whole text finds: the first cause, or n and tables whose text it is, which are stored as far as there are rows.
pub record Scanned (n : ℕ) (counts : Counts) (text : List ℕ) (before after : Tables) : Type 0 where
  pub P : List ℕ
  pub C : List ℤ
  pub L : List ℕ
  pub text_of : ListedText n P L C text
  pub prefix_adds : Adds P 0 counts.0 before.0 after.0
  pub clauses_adds : Adds C 0 counts.1 before.1 after.1
  pub lists_adds : Adds L 0 counts.2 before.2 after.2

abbrev pub ScanIs : List ℕ → Tables → Tables → Answer ListedCounts → Type 0
ScanIs text before after (Ok counts) = Scanned counts.n (counts.prefix, counts.clauses, counts.lists) text before after
ScanIs text before after (Err refusal) = First (LineCause ListedFollow text) (fault_number refusal.0) refusal.1

-- What lies at the end of a text, after all its lines, at a stage: a fault, whether list lines have stood or not, or nothing.
abbrev pub FinishIs : Stage → ℕ → Counts → Answer ListedCounts → Type 0
FinishIs stage at counts (Ok listed) =
    (stage ≡ Body listed.n (announced_at stage) (announced_at stage)) × (listed.prefix ≡ counts.0) × (listed.clauses ≡ counts.1) × (listed.lists ≡ counts.2)
FinishIs stage at counts (Err refusal) = ((listed : Bool) → ListedFault (fault_number refusal.0) listed stage ([] ∷ [])) × (refusal.1 ≡ at)
