-- What a formula means: its blocks, the level and the quantifier of each variable, and its clauses (rule 1.2, rule 1.3, rule 1.4, rule 1.5,
-- rule 1.7).
use Rattle.std.specs.Prelude.{ℕ, suc, ◌≡◌, Bool, true, false, cond, not, ◌&&◌, ◌||◌, List, [], ◌∷◌, map, get_or, eqb, leb, ℤ, pos, negsuc}
use Rattle.terms.specs.Literals.{variable_of}
use Rattle.formula.specs.Tables.{cut}

-- an entry that closes a list
abbrev pub is_zero : ℕ → Bool
is_zero entry = eqb entry 0

-- the blocks of a prefix, outermost first: each its mark and then its variables
unfoldable pub blocks : List ℕ → List (List ℕ)
blocks es = cut is_zero es

-- the clauses of a clause table, numbered from 0: each its literals
unfoldable pub clauses : List ℤ → List (List ℤ)
clauses ls = cut (λ literal. is_zero (variable_of literal)) ls

-- two literals of one variable with different signs
unfoldable pub opposite : ℤ → ℤ → Bool
opposite (pos v) (pos w) = false
opposite (pos v) (negsuc w) = eqb v (suc w)
opposite (negsuc v) (pos w) = eqb (suc v) w
opposite (negsuc v) (negsuc w) = false

-- some literal of a list is opposite to this one
unfoldable pub denied : ℤ → List ℤ → Bool
denied literal [] = false
denied literal (other ∷ more) = opposite literal other || denied literal more

-- a clause that is always true: it has both signs of one variable
unfoldable pub always_true : List ℤ → Bool
always_true [] = false
always_true (literal ∷ more) = denied literal more || always_true more

-- the variables that a clause connects: its own, in either sign, and none where it is always true
unfoldable pub connected : List ℤ → List ℕ
connected clause = cond (always_true clause) [] (map variable_of clause)

abbrev pub mark_of : List ℕ → ℕ
mark_of block = get_or block 0 0

-- v is among the numbers of a list
abbrev pub has : List ℕ → ℕ → Bool
has [] v = false
has (w ∷ ws) v = cond (eqb w v) true (has ws v)

-- v is among the variables of a block, which follow its mark
abbrev pub names : List ℕ → ℕ → Bool
names [] v = false
names (mark ∷ variables) v = has variables v

-- v is a variable of block k, counted from 1, which has the mark m
pub record InBlock (bs : List (List ℕ)) (v k m : ℕ) : Type 0 where
  -- so many blocks stand before it
  pub before : ℕ
  pub number : k ≡ suc before
  pub variables : List ℕ
  pub block : get_or bs before [] ≡ m ∷ variables
  pub named : has variables v ≡ true

-- Levels and quantifiers are those of a list of blocks. (A prefix that is accepted names a variable once: proofs/InBlocks says both by InBlock.)

-- the number of the block that names v, where blocks are numbered from k on; `free` if none names it
abbrev pub number_from : ℕ → List (List ℕ) → ℕ → ℕ → ℕ
number_from k [] free v = free
number_from k (block ∷ later) free v = cond (names block v) k (number_from (suc k) later free v)

-- the mark of the first block, 0 where there is none
abbrev pub first_mark : List (List ℕ) → ℕ
first_mark [] = 0
first_mark (block ∷ rest) = mark_of block

-- a free variable belongs to block 1 if that is existential, else to block 0
abbrev pub free_level_of : List (List ℕ) → ℕ
free_level_of bs = cond (eqb (first_mark bs) 1) 1 0

-- the level of a variable: the number of its block, counted from 1
abbrev pub level_of : List (List ℕ) → ℕ → ℕ
level_of bs v = number_from 1 bs (free_level_of bs) v

-- a universal variable is one of a block with mark 2
abbrev pub universal_of : List (List ℕ) → ℕ → Bool
universal_of [] v = false
universal_of (block ∷ later) v = cond (names block v) (eqb (mark_of block) 2) (universal_of later v)

-- every other variable from 1 to n is existential, the free ones among them
abbrev pub existential_of : ℕ → List (List ℕ) → ℕ → Bool
existential_of n bs v = leb 1 v && leb v n && not (universal_of bs v)

unfoldable pub level : List ℕ → ℕ → ℕ
level es v = level_of (blocks es) v

unfoldable pub is_universal : List ℕ → ℕ → Bool
is_universal es v = universal_of (blocks es) v

unfoldable pub is_existential : ℕ → List ℕ → ℕ → Bool
is_existential n es v = leb 1 v && leb v n && not (is_universal es v)
