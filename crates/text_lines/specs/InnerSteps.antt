-- What the functions on one line promise, in the grammar's words, for the line that stands at a place of a text.
use Rattle.std.specs.Prelude.{ℕ, ◌+◌, ◌≤◌, ◌≡◌, cond, List, [], ◌∷◌, length, drop, ℤ, None, Some, Option, Result, Ok, Err}
use Rattle.std.proofs.Math.Option.{some}
use Rattle.std.proofs.lemmas.List.Edits.{sets}
use Rattle.text_lines.specs.declared.Stage.{Stage}
use Rattle.text_lines.specs.declared.Stage.TheVariants.{Opening, Body}
use Rattle.text_lines.specs.declared.Opened.{Opened}
use Rattle.text_lines.specs.declared.Opened.TheVariants.{Comment, Problem}
use Rattle.text_lines.specs.declared.Signed.{Signed}
use Rattle.text_lines.specs.declared.Signed.TheVariants.{Unfit, Close, Literal}
use Rattle.text_lines.specs.declared.Mark.{Mark}
use Rattle.text_words.specs.declared.Row.{Row}
use Rattle.text_lines.specs.declared.Step.{Step}
use Rattle.terms.specs.declared.Fault as terms
use Rattle.terms.specs.Says.{fault_number}
use Rattle.text_words.specs.InnerNumbers.{Plain, Negated, entries_of, variables}
use Rattle.text_words.specs.Words.{LF, LETTER-A, LETTER-E, pieces}
use Rattle.text_lines.specs.Format.{CommentLine, ProblemLine}
use Rattle.text_lines.specs.InnerGrammar.{Line, Fault}
use Rattle.text_words.specs.InnerPlaces.{line_at, after_at, words_at, Passed, Taken, Unread, Closes, NoRow}
use Rattle.text_words.specs.InnerExpected.{Goes, SpeltIs}

-- The line at a place is no comment.
abbrev pub NoComment : List ℕ → ℕ → Type 0
NoComment text at = CommentLine (line_at text at) → ⊥

-- The line at a place ends in LF and is what it is taken for; or it is neither a comment nor the problem line, or has no LF.
pub data NoOpening (text : List ℕ) (at : ℕ) : Type 0 where
  no_opening : (CommentLine (line_at text at) → ⊥) → ((n m : ℕ) → ProblemLine (line_at text at) n m → ⊥) → NoOpening text at
  endless_line : after_at text at ≡ [] → NoOpening text at

abbrev pub OpenedIs : List ℕ → ℕ → Option Opened → Type 0
OpenedIs text at None = NoOpening text at
OpenedIs text at (Some (Comment next)) = CommentLine (line_at text at) × Passed text at next
OpenedIs text at (Some (Problem n m next)) = ProblemLine (line_at text at) n m × Passed text at next

-- Whether a line begins with the word `e` or `a`, whose marks are 1 and 2.
pub data MarkAt (text : List ℕ) (at mark next : ℕ) : Type 0 where
  e_mark : mark ≡ 1 → Goes (LETTER-E ∷ []) text at next → MarkAt text at mark next
  a_mark : mark ≡ 2 → Goes (LETTER-A ∷ []) text at next → MarkAt text at mark next

abbrev pub MarkIs : List ℕ → ℕ → Option Mark → Type 0
MarkIs text at None = SpeltIs (LETTER-E ∷ []) text at None × SpeltIs (LETTER-A ∷ []) text at None
MarkIs text at (Some marked) = MarkAt text at marked.mark marked.next

-- The next entry of a clause line: a literal, its sign beside its number, or the closing 0.
abbrev pub SignedIs : List ℕ → ℕ → Signed → Type 0
SignedIs text at Unfit = Unread text at
SignedIs text at (Close next) = Closes text at next
SignedIs text at (Literal value negative next) = Taken (cond negative (Negated value) (Plain value)) text at next

-- The entries of a quantifier line, from the place after its mark on: the mark, the variables and 0.
pub record WholeBlock (mark : ℕ) (text : List ℕ) (at from : ℕ) (before after : List ℕ) (next count : ℕ) : Type 0 where
  pub entries : List ℕ
  pub read : entries_of variables (words_at text at) ≡ some entries
  pub passed : Passed text at next
  pub counted : count ≡ from + length (mark ∷ entries)
  pub stored : after ≡ sets before from (mark ∷ entries)
  pub few : count ≤ next

abbrev pub BlockIs : ℕ → List ℕ → ℕ → ℕ → List ℕ → List ℕ → Option Row → Type 0
BlockIs mark text at from before after None = NoRow variables text at
BlockIs mark text at from before after (Some row) = WholeBlock mark text at from before after row.next row.count

-- The line at a place may stand at a stage: the stage it leads to, the next line, and what it added to the tables.
pub record Went (stage : Stage) (text : List ℕ) (at entries literals : ℕ) (before after : List ℕ × List ℤ) (stage' : Stage) (next entries' literals' : ℕ) :
    Type 0 where
  pub p : List ℕ
  pub c : List ℤ
  pub line : Line stage (line_at text at) stage' p c
  pub passed : Passed text at next
  pub entries_counted : entries' ≡ entries + length p
  pub literals_counted : literals' ≡ literals + length c
  pub prefix_stored : after.0 ≡ sets before.0 entries p
  pub clauses_stored : after.1 ≡ sets before.1 literals c
  pub few_entries : entries' ≤ next
  pub few_literals : literals' ≤ next

-- What a line makes of a stage and two tables, which `before` and `after` hold: a fault, or the next stage.
abbrev pub StepIs : Stage → List ℕ → ℕ → ℕ → ℕ → List ℕ × List ℤ → List ℕ × List ℤ → Result Step terms.Fault → Type 0
StepIs stage text at entries literals before after (Err fault) = Fault (fault_number fault) stage (pieces LF (drop at text))
StepIs stage text at entries literals before after (Ok step) =
    Went stage text at entries literals before after step.stage step.next step.entries step.literals

-- No more clause lines have stood than were announced.
abbrev pub Sound : Stage → Type 0
Sound Opening = Unit {0}
Sound (Body n m k) = k ≤ m

-- How many clause lines were announced.
abbrev pub announced_at : Stage → ℕ
announced_at Opening = 0
announced_at (Body n m k) = m
