-- Lines, words and numbers of a text (rule 9.2, rule 9.3). A text, a line and a word are lists of bytes.
use Rattle.std.specs.Prelude.{ℕ, ◌≤◌, cond, List, [], ◌∷◌, ◌≢◌, eqb, ℤ, pos, neg_ℤ, length}
use Rattle.text_write.specs.Numbers.{Digits}
pub use Rattle.text_write.specs.Texts.{LF, SPACE, MINUS, ZERO, LETTER-A, LETTER-C, LETTER-E, LETTER-F, LETTER-N, LETTER-P}

-- A byte in front of the first piece.
unfoldable pub onto : ℕ → List (List ℕ) → List (List ℕ)
onto byte [] = (byte ∷ []) ∷ []
onto byte (piece ∷ more) = (byte ∷ piece) ∷ more

-- Bytes cut at each occurrence of a mark: one piece more than there are marks, and no mark in a piece.
-- Cut at LF, a text is its lines and last what follows the last LF, so every line ends in LF if that is empty.
unfoldable pub pieces : ℕ → List ℕ → List (List ℕ)
pieces mark [] = [] ∷ []
pieces mark (byte ∷ bytes) = cond (eqb byte mark) ([] ∷ pieces mark bytes) (onto byte (pieces mark bytes))

-- The pieces that are not empty.
unfoldable pub filled : List (List ℕ) → List (List ℕ)
filled [] = []
filled ([] ∷ more) = filled more
filled ((byte ∷ bytes) ∷ more) = (byte ∷ bytes) ∷ filled more

-- The words of a line: separated by one or more spaces; spaces may lead or trail.
unfoldable pub words : List ℕ → List (List ℕ)
words line = filled (pieces SPACE line)

-- A word spells a number: one to five digits, leading zeros among them.
pub record Spells (word : List ℕ) (v : ℕ) : Type 0 where
  pub digits : Digits word v
  pub some : 1 ≤ length word
  pub few : length word ≤ 5

-- A word that says a variable or a literal: a number that is not 0; only that of a literal may carry `-`.
pub data VariableWord : List ℕ → ℕ → Type 0 where
  variable_word : {word : List ℕ} {v : ℕ} → Spells word v → v ≢ 0 → VariableWord word v

pub data LiteralWord : List ℕ → ℤ → Type 0 where
  unsigned_word : {word : List ℕ} {v : ℕ} → Spells word v → v ≢ 0 → LiteralWord word (pos v)
  negated_word : {word : List ℕ} {v : ℕ} → Spells word v → v ≢ 0 → LiteralWord (MINUS ∷ word) (neg_ℤ (pos v))

-- Words that say the entries of a list as a table has it, closed by 0: the last number, and no other, is 0.
pub data Entries {A : Type 0} (Says : List ℕ → A → Type 0) (nought : A) : List (List ℕ) → List A → Type 0 where
  closing : {word : List ℕ} → Spells word 0 → Entries Says nought (word ∷ []) (nought ∷ [])
  entry : {word : List ℕ} {more : List (List ℕ)} {a : A} {later : List A} → Says word a → Entries Says nought more later
      → Entries Says nought (word ∷ more) (a ∷ later)

abbrev pub VariableWords : List (List ℕ) → List ℕ → Type 0
VariableWords = Entries VariableWord 0

abbrev pub LiteralWords : List (List ℕ) → List ℤ → Type 0
LiteralWords = Entries LiteralWord (pos 0)
