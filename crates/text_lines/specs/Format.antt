-- The QDIMACS format (rule 9.1, rule 9.3; 16 and 17 of rule 8.1): the kinds of line and what they say, which text is the text of which tables,
-- and what is wrong with a text, and where. A text and a line are lists of bytes.
use Rattle.std.specs.Prelude.{ℕ, suc, ◌+◌, ◌<◌, ◌≡◌, List, [], ◌∷◌, ◌++◌, ◌≢◌, length, ℤ}
use Rattle.text_words.specs.Words.{LF, LETTER-A, LETTER-C, LETTER-E, LETTER-F, LETTER-N, LETTER-P, pieces, words, Spells, VariableWords, LiteralWords}

-- A comment: begins with c; any bytes.
pub data CommentLine : List ℕ → Type 0 where
  comment : {line bytes : List ℕ} → line ≡ LETTER-C ∷ bytes → CommentLine line

-- The problem line `p cnf n m`.
pub data ProblemLine : List ℕ → ℕ → ℕ → Type 0 where
  p_cnf : {line number count : List ℕ} {n m : ℕ} → words line ≡ (LETTER-P ∷ []) ∷ (LETTER-C ∷ LETTER-N ∷ LETTER-F ∷ []) ∷ number ∷ count ∷ []
      → Spells number n → Spells count m → ProblemLine line n m

-- A quantifier line, `e` or `a`, variables or none, `0`, and its entries in the prefix table: the mark, the variables, 0.
pub data QuantifierLine : List ℕ → List ℕ → Type 0 where
  e_line : {line entries : List ℕ} {more : List (List ℕ)} → words line ≡ (LETTER-E ∷ []) ∷ more → VariableWords more entries
      → QuantifierLine line (1 ∷ entries)
  a_line : {line entries : List ℕ} {more : List (List ℕ)} → words line ≡ (LETTER-A ∷ []) ∷ more → VariableWords more entries
      → QuantifierLine line (2 ∷ entries)

-- A clause line, and its entries in the clause table: literals or none, 0.
pub data ClauseLine : List ℕ → List ℤ → Type 0 where
  literals_line : {line : List ℕ} {entries : List ℤ} → LiteralWords (words line) entries → ClauseLine line entries

-- Every line is so, some line is so, and so many lines are so.
pub data All (P : List ℕ → Type 0) : List (List ℕ) → Type 0 where
  all_none : All P []
  all_more : {line : List ℕ} {lines : List (List ℕ)} → P line → All P lines → All P (line ∷ lines)

pub data Some (P : List ℕ → Type 0) : List (List ℕ) → Type 0 where
  here : {line : List ℕ} {lines : List (List ℕ)} → P line → Some P (line ∷ lines)
  there : {line : List ℕ} {lines : List (List ℕ)} → Some P lines → Some P (line ∷ lines)

pub data HowMany (P : List ℕ → Type 0) : List (List ℕ) → ℕ → Type 0 where
  count_none : HowMany P [] 0
  count_one : {line : List ℕ} {lines : List (List ℕ)} {k : ℕ} → P line → HowMany P lines k → HowMany P (line ∷ lines) (suc k)
  count_other : {line : List ℕ} {lines : List (List ℕ)} {k : ℕ} → ¬ P line → HowMany P lines k → HowMany P (line ∷ lines) k

-- Lines of one kind say the entries of a table, one after the other.
pub data Say {A : Type 0} (Line : List ℕ → List A → Type 0) : List (List ℕ) → List A → Type 0 where
  say_none : Say Line [] []
  say_more : {line : List ℕ} {lines : List (List ℕ)} {entries table : List A} → Line line entries → Say Line lines table
      → Say Line (line ∷ lines) (entries ++ table)

-- A text with these lines behind its problem line `p cnf n m`: cut at LF it is comments, that line, these lines, and nothing behind the last LF.
pub record TextWith (n m : ℕ) (body : List (List ℕ)) (text : List ℕ) : Type 0 where
  pub comments : List (List ℕ)
  pub problem : List ℕ
  pub cut : pieces LF text ≡ comments ++ (problem ∷ (body ++ ([] ∷ [])))
  pub are_comments : All CommentLine comments
  pub is_problem : ProblemLine problem n m

-- The text of n and two tables: quantifier lines, which say the prefix table, and as many clause lines as announced, which say the clause table.
pub record TextOf (n : ℕ) (prefix : List ℕ) (table : List ℤ) (text : List ℕ) : Type 0 where
  pub quantifiers : List (List ℕ)
  pub clauses : List (List ℕ)
  pub lines : TextWith n (length clauses) (quantifiers ++ clauses) text
  pub quantifiers_say : Say QuantifierLine quantifiers prefix
  pub clauses_say : Say ClauseLine clauses table

-- A quantifier line and a clause line, whatever they say; one of these lines announces m clause lines; one of them is a problem line.
abbrev pub IsQuantifier : List ℕ → Type 0
IsQuantifier line = (entries : List ℕ) × QuantifierLine line entries

abbrev pub IsClause : List ℕ → Type 0
IsClause line = (entries : List ℤ) × ClauseLine line entries

abbrev pub Announce : List (List ℕ) → ℕ → Type 0
Announce lines m = Some (λ line. (n : ℕ) × ProblemLine line n m) lines

abbrev pub Announced : List (List ℕ) → Type 0
Announced lines = (m : ℕ) × Announce lines m

-- Which line may stand behind which: comments and the problem line where no problem line has stood, then quantifier lines where no clause line has, and
-- clause lines.
pub data MayFollow (before : List (List ℕ)) (line : List ℕ) : Type 0 where
  comment_follows : CommentLine line → ¬ Announced before → MayFollow before line
  problem_follows : {n m : ℕ} → ProblemLine line n m → ¬ Announced before → MayFollow before line
  quantifier_follows : IsQuantifier line → Announced before → ¬ Some IsClause before → MayFollow before line
  clause_follows : IsClause line → Announced before → MayFollow before line

-- Where a line stands behind others: each counts its bytes and its LF.
abbrev pub place_after : List (List ℕ) → ℕ
place_after [] = 0
place_after (line ∷ lines) = length line + 1 + place_after lines

-- What is wrong with a text, and where, in a format that says which line may stand behind which. 16: a line without LF; a line that may not stand
-- behind those before it; no problem line, at the text's length. 17: a clause line behind as many as a line before it announced; fewer clause lines than
-- announced, at the text's length.
pub data LineCause (Follows : List (List ℕ) → List ℕ → Type 0) (text : List ℕ) : ℕ → ℕ → Type 0 where
  unended_line : (before : List (List ℕ)) (line : List ℕ) → pieces LF text ≡ before ++ (line ∷ []) → line ≢ []
      → LineCause Follows text 16 (place_after before)
  misplaced_line : (before : List (List ℕ)) (line next : List ℕ) (after : List (List ℕ)) → pieces LF text ≡ before ++ (line ∷ next ∷ after)
      → ¬ Follows before line → LineCause Follows text 16 (place_after before)
  no_problem_line : ¬ Announced (pieces LF text) → LineCause Follows text 16 (length text)
  clause_too_many : (before : List (List ℕ)) (line : List ℕ) (after : List (List ℕ)) {m : ℕ} → pieces LF text ≡ before ++ (line ∷ after)
      → IsClause line → Announce before m → HowMany IsClause before m → LineCause Follows text 17 (place_after before)
  clauses_too_few : {m k : ℕ} → Announce (pieces LF text) m → HowMany IsClause (pieces LF text) k → k < m → LineCause Follows text 17 (length text)
