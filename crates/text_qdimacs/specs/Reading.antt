-- What reading a text promises (rule 7.5, rule 8.3): n and the tables of the text, or the first cause in the
-- order 15, then 16 and 17 by the earliest line, 16 first at one line, then 14.
use Rattle.terms.specs.declared.Counts.{Counts}
use Rattle.std.specs.Prelude.{ℕ, ◌<◌, ◌≡◌, List, [], ◌∷◌, length, ℤ}
use Rattle.terms.specs.Overwritten.{overwritten}
use Rattle.terms.specs.Says.{counts_said, Answer}
use Rattle.terms.specs.Answers.{Settles}
use Rattle.terms.specs.Refusals.{Causes}
use Rattle.text_lines.specs.Format.{TextOf, MayFollow, LineCause}
pub use Rattle.text_write.specs.Texts.{TEXT-MOST, Overlong, overlong}

-- 14: the text is that of tables of which one does not fit where it is to be stored.
pub data NoRoom (text prefix : List ℕ) (clauses : List ℤ) : ℕ → ℕ → Type 0 where
  no_room_prefix : {n : ℕ} {P : List ℕ} {C : List ℤ} → TextOf n P C text → length prefix < length P → NoRoom text prefix clauses 14 0
  no_room_clauses : {n : ℕ} {P : List ℕ} {C : List ℤ} → TextOf n P C text → length clauses < length C → NoRoom text prefix clauses 14 0

abbrev pub read_order : List ℕ → List ℕ → List ℤ → List Causes
read_order text prefix clauses = Overlong text ∷ LineCause MayFollow text ∷ NoRoom text prefix clauses ∷ []

-- The text is that of n and of two tables, which now stand in front in the lent ones, with nothing past them changed; the counts are their lengths.
pub record ReadInto (n entries literals : ℕ) (text prefix prefix' : List ℕ) (clauses clauses' : List ℤ) : Type 0 where
  pub P : List ℕ
  pub C : List ℤ
  pub text_of : TextOf n P C text
  pub entries_counted : entries ≡ length P
  pub literals_counted : literals ≡ length C
  pub prefix_left : prefix' ≡ overwritten P prefix
  pub clauses_left : clauses' ≡ overwritten C clauses

-- Each answer: accepted, with n and the two counts, or refused, with the tables as they were.
abbrev pub ReadIs : List ℕ → List ℕ → List ℕ → List ℤ → List ℤ → Answer Counts → Type 0
ReadIs text prefix prefix' clauses clauses' answer =
    Settles (read_order text prefix clauses) (λ (counts : ℕ × ℕ × ℕ). ReadInto counts.0 counts.1 counts.2 text prefix prefix' clauses clauses')
    ((prefix' ≡ prefix) × (clauses' ≡ clauses)) (counts_said answer)
