-- What reading a text promises (rule 13.4, rule 8.3): n and the tables of the text, or the first cause
-- in the order 15, then 16 and 17 by the earliest line, 16 first at one line, then 14.
use Rattle.terms.specs.declared.ListedCounts.{ListedCounts}
use Rattle.std.specs.Prelude.{ℕ, ◌<◌, ◌≡◌, List, [], ◌∷◌, length, ℤ}
use Rattle.terms.specs.Overwritten.{overwritten}
use Rattle.terms.specs.Says.{listed_said, Answer}
use Rattle.terms.specs.Answers.{Settles}
use Rattle.terms.specs.Refusals.{Causes}
use Rattle.text_write.specs.Texts.{Overlong}
use Rattle.text_lines.specs.Format.{LineCause}
use Rattle.dqbf_text.specs.Format.{ListedText, ListedFollow}

-- The tables that a text fills: the prefix table, the clause table and the table of lists.
abbrev pub Tables : Type 0
Tables = List ℕ × List ℤ × List ℕ

-- 14: the text is that of tables of which one does not fit where it is to be stored.
pub data NoListedRoom (text : List ℕ) (before : Tables) : ℕ → ℕ → Type 0 where
  no_room_prefix : {n : ℕ} {P L : List ℕ} {C : List ℤ} → ListedText n P L C text → length before.0 < length P → NoListedRoom text before 14 0
  no_room_clauses : {n : ℕ} {P L : List ℕ} {C : List ℤ} → ListedText n P L C text → length before.1 < length C → NoListedRoom text before 14 0
  no_room_lists : {n : ℕ} {P L : List ℕ} {C : List ℤ} → ListedText n P L C text → length before.2 < length L → NoListedRoom text before 14 0

abbrev pub listed_read_order : List ℕ → Tables → List Causes
listed_read_order text before = Overlong text ∷ LineCause ListedFollow text ∷ NoListedRoom text before ∷ []

-- so many rows stand in front in a table, with nothing past them changed
pub record FrontFilled {A : Type 0} (rows : List A) (count : ℕ) (before after : List A) : Type 0 where
  pub counted : count ≡ length rows
  pub left : after ≡ overwritten rows before

-- The text is that of n and of three tables, which now stand in front in the lent ones.
pub record ListedReadInto (n entries literals rows : ℕ) (text : List ℕ) (before after : Tables) : Type 0 where
  pub P : List ℕ
  pub C : List ℤ
  pub L : List ℕ
  pub text_of : ListedText n P L C text
  pub prefix_filled : FrontFilled P entries before.0 after.0
  pub clauses_filled : FrontFilled C literals before.1 after.1
  pub lists_filled : FrontFilled L rows before.2 after.2

-- Each answer: accepted, with n and the three counts, or refused, with the tables as they were.
abbrev pub ListedReadIs : List ℕ → Tables → Tables → Answer ListedCounts → Type 0
ListedReadIs text before after answer =
    Settles (listed_read_order text before) (λ (counts : ℕ × ℕ × ℕ × ℕ). ListedReadInto counts.0 counts.1 counts.2 counts.3 text before after)
    ((after.0 ≡ before.0) × (after.1 ≡ before.1) × (after.2 ≡ before.2)) (listed_said answer)
