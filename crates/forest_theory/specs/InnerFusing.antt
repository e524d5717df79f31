-- Inner: the forest of a list computed as rows, one clause at a time by the rules of Fused, and the counts of rows; for worked examples.
use Rattle.std.specs.Prelude.{ℕ, zero, suc, Bool, cond, ◌||◌, ◌&&◌, List, [], ◌∷◌, ◌++◌, eqb, ltb}
use Rattle.forest_theory.specs.Reach.{Variables}
use Rattle.forest_theory.specs.Tables.{Table, lent}
use Rattle.forest_theory.specs.Counts.{how_many}
use Rattle.forest_theory.specs.InnerSearch.{has}

-- f of n numbers from s on.
unfoldable pub fill : ℕ → ℕ → (ℕ → ℕ) → List ℕ
fill zero s f = []
fill (suc n) s f = f s ∷ fill n (suc s) f

-- Class c and the classes above it.
unfoldable pub classes_up : Table → ℕ → ℕ → List ℕ
classes_up W zero c = c ∷ []
classes_up W (suc fuel) c = let up = classes_up W fuel (W.par c) in c ∷ cond (eqb (W.par c) 0) [] up

-- The classes that a clause marks.
unfoldable pub marks : Variables → Table → List ℕ → List ℕ
marks X W [] = []
marks X W (e ∷ clause) = cond (X.ex e) (classes_up W (X.lev e) (W.cls e)) [] ++ marks X W clause

-- m goes before b: there is no b, or m is deeper, or as deep and lower.
unfoldable pub goes_before : Variables → ℕ → ℕ → Bool
goes_before X m b = eqb b 0 || ltb (X.lev b) (X.lev m) || (eqb (X.lev b) (X.lev m) && ltb m b)

-- Of the marks of a block less than j, the lowest of the deepest block; 0 if there is none.
unfoldable pub under : Variables → ℕ → List ℕ → ℕ
under X j [] = 0
under X j (m ∷ ms) = let b = under X j ms in cond (ltb (X.lev m) j && goes_before X m b) m b

-- What a class row becomes: the lowest mark of its block if the class is marked.
unfoldable pub fuse_class : Variables → Table → List ℕ → ℕ → ℕ
fuse_class X W ms v = cond (X.ex v) (cond (has (W.cls v) ms) (under X (suc (X.lev v)) ms) (W.cls v)) 0

-- What the parent row of a class becomes: the next mark of a lesser block if it is marked, else the new class of its parent.
unfoldable pub fuse_parent : Variables → Table → List ℕ → ℕ → ℕ
fuse_parent X W ms v = cond (X.ex v && eqb (fuse_class X W ms v) v) (cond (has v ms) (under X (X.lev v) ms) (fuse_class X W ms (W.par v))) 0

-- The rows of a table.
pub record Rows : Type 0 where
  pub classes : List ℕ
  pub parents : List ℕ

-- The table that two lists of rows are.
unfoldable pub table_of : Variables → Rows → Table
table_of X R = lent X R.classes R.parents

-- The rows that two functions give.
unfoldable pub rows_by : Variables → (ℕ → ℕ) → (ℕ → ℕ) → Rows
rows_by X f g = record { classes = fill X.count 1 f; parents = fill X.count 1 g }

-- The rows after a clause that marks ms.
unfoldable pub fuse_marks : Variables → Table → List ℕ → Rows
fuse_marks X W ms = rows_by X (fuse_class X W ms) (fuse_parent X W ms)

-- A clause put into the rows, with its marks found once.
unfoldable pub fuse : Variables → Rows → List ℕ → Rows
fuse X R clause = fuse_marks X (table_of X R) (marks X (table_of X R) clause)

-- Clause after clause put into the rows R.
unfoldable pub fuse_all : Variables → Rows → List (List ℕ) → Rows
fuse_all X R [] = R
fuse_all X R (clause ∷ clauses) = fuse_all X (fuse X R clause) clauses

-- Every existential in a class of its own.
unfoldable pub singles : Variables → Rows
singles X = rows_by X (λ v. cond (X.ex v) v 0) (λ v. 0)

-- The forest of a list.
unfoldable pub forest_of : Variables → List (List ℕ) → Rows
forest_of X clauses = fuse_all X (singles X) clauses

-- How many variables stand in class c or below it.
unfoldable pub count_of : Variables → Table → ℕ → ℕ
count_of X W c = how_many (λ v. X.ex v && has c (classes_up W (X.lev v) (W.cls v))) X.count

-- The counts of a table.
unfoldable pub counts_of : Variables → Table → List ℕ
counts_of X W = fill X.count 1 (count_of X W)
