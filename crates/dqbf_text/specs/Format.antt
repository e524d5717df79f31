-- The DQDIMACS format (rule 13.4): that of QDIMACS, and after the quantifier lines come lines `d y x1 .. 0`, each with the universals on
-- which an existential may depend.
use Rattle.std.specs.Prelude.{ℕ, ◌≡◌, List, [], ◌∷◌, ◌++◌, length, ℤ}
use Rattle.text_words.specs.Words.{words, VariableWord, VariableWords}
use Rattle.text_lines.specs.Format.{QuantifierLine, ClauseLine, Some, Say, TextWith, IsQuantifier, IsClause, Announced, MayFollow}

-- The letter that list lines begin with.
abbrev pub LETTER-D : ℕ
LETTER-D = 100

-- A list line `d y x1 .. 0`, and its entries in the table of lists: y, its universals or none, 0. So `d 0` is no list line.
pub data ListLine : List ℕ → List ℕ → Type 0 where
  d_line : {line word : List ℕ} {more : List (List ℕ)} {y : ℕ} {universals : List ℕ} → words line ≡ (LETTER-D ∷ []) ∷ word ∷ more
      → VariableWord word y → VariableWords more universals → ListLine line (y ∷ universals)

-- The text of n and three tables: quantifier lines, list lines, and as many clause lines as announced.
pub record ListedText (n : ℕ) (prefix lists : List ℕ) (table : List ℤ) (text : List ℕ) : Type 0 where
  pub quantifiers : List (List ℕ)
  pub list_lines : List (List ℕ)
  pub clauses : List (List ℕ)
  pub lines : TextWith n (length clauses) (quantifiers ++ (list_lines ++ clauses)) text
  pub quantifiers_say : Say QuantifierLine quantifiers prefix
  pub lists_say : Say ListLine list_lines lists
  pub clauses_say : Say ClauseLine clauses table

-- A list line, whatever it says.
abbrev pub IsList : List ℕ → Type 0
IsList line = (entries : List ℕ) × ListLine line entries

-- Which line may stand behind which: those of QDIMACS as there, but no quantifier line behind a list line; and list lines behind the problem line,
-- where no clause line has stood.
pub data ListedFollow (before : List (List ℕ)) (line : List ℕ) : Type 0 where
  line_follows : MayFollow before line → (IsQuantifier line → ¬ Some IsList before) → ListedFollow before line
  list_follows : IsList line → Announced before → ¬ Some IsClause before → ListedFollow before line
