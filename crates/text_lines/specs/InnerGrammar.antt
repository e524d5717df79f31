-- The QDIMACS format by stages, as the scan passes a text: which line leads to which stage, and which fault it stops at. It says the same as Format
-- (`text_qdimacs`, proofs/Staged and proofs/Decided).
use Rattle.std.specs.Prelude.{ℕ, suc, ◌<◌, ◌≡◌, List, [], ◌∷◌, ◌++◌, ℤ}
use Rattle.text_lines.specs.declared.Stage.{Stage}
use Rattle.text_lines.specs.declared.Stage.TheVariants.{Opening, Body}
use Rattle.text_words.specs.Words.{LF, pieces}
use Rattle.text_lines.specs.Format.{CommentLine, ProblemLine, QuantifierLine, ClauseLine, place_after}

-- Which line may stand where, to which stage it leads, and what it adds to the prefix table and to the clause table. The stage is
-- `Opening` before the problem line; `Body n m k` after it, where m clause lines are announced and k have stood so far.
pub data Line : Stage → List ℕ → Stage → List ℕ → List ℤ → Type 0 where
  a_comment : {line : List ℕ} → CommentLine line → Line Opening line Opening [] []
  the_problem : {line : List ℕ} {n m : ℕ} → ProblemLine line n m → Line Opening line (Body n m 0) [] []
  a_block : {line entries : List ℕ} {n m k : ℕ} → k ≡ 0 → QuantifierLine line entries → Line (Body n m k) line (Body n m k) entries []
  a_clause : {line : List ℕ} {entries : List ℤ} {n m k : ℕ} → k < m → ClauseLine line entries → Line (Body n m k) line (Body n m (suc k)) [] entries

-- Lines that follow one another, and what they add together.
pub data Lines : Stage → List (List ℕ) → Stage → List ℕ → List ℤ → Type 0 where
  no_line : {stage : Stage} → Lines stage [] stage [] []
  one_more : {stage next last : Stage} {line : List ℕ} {lines : List (List ℕ)} {p P : List ℕ} {c C : List ℤ}
      → Line stage line next p c → Lines next lines last P C → Lines stage (line ∷ lines) last (p ++ P) (c ++ C)

-- The text of n and two tables: lines from the opening to the last clause line announced, and nothing after the last LF.
pub record TextByStages (n : ℕ) (prefix : List ℕ) (clauses : List ℤ) (text : List ℕ) : Type 0 where
  pub announced : ℕ
  pub lines : List (List ℕ)
  pub cut : pieces LF text ≡ lines ++ ([] ∷ [])
  pub follow : Lines Opening lines (Body n announced announced) prefix clauses

-- What is wrong with what is left of a text, cut at LF, at a stage. 16: a line that may not stand there, unless it is one clause line
-- too many; a last line without LF; no problem line. 17: one clause line too many; too few.
pub data TooMany : Stage → List ℕ → Type 0 where
  too_many : {line : List ℕ} {entries : List ℤ} {n m k : ℕ} → k ≡ m → ClauseLine line entries → TooMany (Body n m k) line

pub data Fault : ℕ → Stage → List (List ℕ) → Type 0 where
  outside : {stage : Stage} {line next : List ℕ} {more : List (List ℕ)}
      → ((after : Stage) (p : List ℕ) (c : List ℤ) → Line stage line after p c → ⊥) → (TooMany stage line → ⊥) → Fault 16 stage (line ∷ next ∷ more)
  unended : {stage : Stage} {byte : ℕ} {bytes : List ℕ} → Fault 16 stage ((byte ∷ bytes) ∷ [])
  no_problem : Fault 16 Opening ([] ∷ [])
  many : {stage : Stage} {line next : List ℕ} {more : List (List ℕ)} → TooMany stage line → Fault 17 stage (line ∷ next ∷ more)
  few : {n m k : ℕ} → k < m → Fault 17 (Body n m k) ([] ∷ [])

-- The fault at which the stages of a text stop: lines within the rules, and then one of the faults, at its first byte or at the text's end.
pub record FaultByStages (text : List ℕ) (number place : ℕ) : Type 0 where
  pub lines : List (List ℕ)
  pub left : List (List ℕ)
  pub stage : Stage
  pub prefix : List ℕ
  pub clauses : List ℤ
  pub cut : pieces LF text ≡ lines ++ left
  pub follow : Lines Opening lines stage prefix clauses
  pub fault : Fault number stage left
  pub at : place ≡ place_after lines
