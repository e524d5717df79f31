-- The DQDIMACS format by stages, as the scan passes a text: which line leads to which stage, and which fault it stops at. It says the same as Format
-- (proofs/Staged and proofs/Decided).
use Rattle.std.specs.Prelude.{ℕ, ◌<◌, ◌≡◌, Bool, true, false, List, [], ◌∷◌, ◌++◌, ℤ}
use Rattle.text_lines.specs.declared.Stage.{Stage}
use Rattle.text_lines.specs.declared.Stage.TheVariants.{Opening, Body}
use Rattle.text_words.specs.Words.{LF, pieces}
use Rattle.text_lines.specs.Format.{place_after}
use Rattle.text_lines.specs.InnerGrammar.{Line, TooMany}
use Rattle.dqbf_text.specs.Format.{ListLine}

-- Which line may stand where, to which stage it leads, and what it adds to the prefix table, to the table of lists and to the clause table.
-- The flag says whether a list line has stood: a line of QDIMACS may stand where it may there, but no quantifier line, which would add to the
-- prefix table, after a list line; a list line may stand after the problem line, before the clause lines.
pub data ListedLine : Bool → Stage → List ℕ → Bool → Stage → List ℕ → List ℕ → List ℤ → Type 0 where
  a_line : {listed : Bool} {stage next : Stage} {line p : List ℕ} {c : List ℤ} → (listed ≡ true → p ≡ []) → Line stage line next p c
      → ListedLine listed stage line listed next p [] c
  a_list : {listed : Bool} {line l : List ℕ} {n m k : ℕ} → k ≡ 0 → ListLine line l → ListedLine listed (Body n m k) line true (Body n m k) [] l []

-- Lines that follow one another, and what they add together.
pub data ListedLines : Bool → Stage → List (List ℕ) → Bool → Stage → List ℕ → List ℕ → List ℤ → Type 0 where
  no_line : {listed : Bool} {stage : Stage} → ListedLines listed stage [] listed stage [] [] []
  one_more : {listed then done : Bool} {stage next last : Stage} {line : List ℕ} {lines : List (List ℕ)} {p P l L : List ℕ} {c C : List ℤ}
      → ListedLine listed stage line then next p l c → ListedLines then next lines done last P L C
      → ListedLines listed stage (line ∷ lines) done last (p ++ P) (l ++ L) (c ++ C)

-- The text of n and three tables: lines from the opening to the last clause line announced, and nothing after the last LF.
pub record ListedByStages (n : ℕ) (prefix lists : List ℕ) (clauses : List ℤ) (text : List ℕ) : Type 0 where
  pub announced : ℕ
  pub listed : Bool
  pub lines : List (List ℕ)
  pub cut : pieces LF text ≡ lines ++ ([] ∷ [])
  pub follow : ListedLines false Opening lines listed (Body n announced announced) prefix lists clauses

-- What is wrong with what is left of a text, cut at LF, at a stage, as in QDIMACS. 16: a line that may not stand there, unless it is one
-- clause line too many; a last line without LF; no problem line. 17: one clause line too many; too few.
pub data ListedFault : ℕ → Bool → Stage → List (List ℕ) → Type 0 where
  outside : {listed : Bool} {stage : Stage} {line next : List ℕ} {more : List (List ℕ)}
      → ((then : Bool) (after : Stage) (p l : List ℕ) (c : List ℤ) → ListedLine listed stage line then after p l c → ⊥) → (TooMany stage line → ⊥)
      → ListedFault 16 listed stage (line ∷ next ∷ more)
  unended : {listed : Bool} {stage : Stage} {byte : ℕ} {bytes : List ℕ} → ListedFault 16 listed stage ((byte ∷ bytes) ∷ [])
  no_problem : {listed : Bool} → ListedFault 16 listed Opening ([] ∷ [])
  many : {listed : Bool} {stage : Stage} {line next : List ℕ} {more : List (List ℕ)} → TooMany stage line → ListedFault 17 listed stage (line ∷ next ∷ more)
  few : {listed : Bool} {n m k : ℕ} → k < m → ListedFault 17 listed (Body n m k) ([] ∷ [])

-- The fault at which the stages of a text stop: lines within the rules, and then one of the faults, at its first byte or at the text's end.
pub record ListedFaultByStages (text : List ℕ) (number place : ℕ) : Type 0 where
  pub lines : List (List ℕ)
  pub left : List (List ℕ)
  pub listed : Bool
  pub stage : Stage
  pub prefix : List ℕ
  pub lists : List ℕ
  pub clauses : List ℤ
  pub cut : pieces LF text ≡ lines ++ left
  pub follow : ListedLines false Opening lines listed stage prefix lists clauses
  pub fault : ListedFault number listed stage left
  pub at : place ≡ place_after lines
