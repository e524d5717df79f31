-- The blocks of a prefix as reading rule 2 takes them (rule 6.2): empty ones dropped, and neighbours with one quantifier joined.
use Rattle.std.specs.Prelude.{ℕ, ◌<◌, ◌≡◌, cond, List, [], ◌∷◌, ◌++◌, map, ◌≢◌, eqb, length, drop}
use Rattle.formula.specs.Meaning.{blocks, mark_of}

-- A block in front of others that are joined already: dropped if it has no variables, and one block with the first of them if both have one mark.
unfoldable pub in_front : List ℕ → List (List ℕ) → List (List ℕ)
in_front [] later = later
in_front (mark ∷ []) later = later
in_front (mark ∷ v ∷ variables) [] = (mark ∷ v ∷ variables) ∷ []
in_front (mark ∷ v ∷ variables) (next ∷ later) =
    cond (eqb mark (mark_of next)) ((mark ∷ v ∷ (variables ++ drop 1 next)) ∷ later) ((mark ∷ v ∷ variables) ∷ next ∷ later)

unfoldable pub joined_blocks : List (List ℕ) → List (List ℕ)
joined_blocks [] = []
joined_blocks (block ∷ later) = in_front block (joined_blocks later)

-- What joining is: no block of the result is empty, no two neighbours have one mark, and the variables are the same in the same order, each under
-- the mark that it had. The joined blocks are the one list of which this holds (proofs/Joining).
abbrev pub NoneEmpty : List (List ℕ) → Type 0
NoneEmpty [] = Unit {0}
NoneEmpty (block ∷ later) = (1 < length block) × NoneEmpty later

abbrev pub Apart : List (List ℕ) → Type 0
Apart [] = Unit {0}
Apart (block ∷ []) = Unit {0}
Apart (block ∷ next ∷ later) = (mark_of block ≢ mark_of next) × Apart (next ∷ later)

unfoldable pub marked : List (List ℕ) → List (ℕ × ℕ)
marked [] = []
marked ([] ∷ later) = marked later
marked ((mark ∷ variables) ∷ later) = map (λ v. (mark, v)) variables ++ marked later

pub record Joins (bs joined : List (List ℕ)) : Type 0 where
  pub full : NoneEmpty joined
  pub apart : Apart joined
  pub same : marked joined ≡ marked bs

-- the table that holds some blocks, each closed by 0
unfoldable pub table_of : List (List ℕ) → List ℕ
table_of [] = []
table_of (block ∷ later) = block ++ (0 ∷ table_of later)

-- The joined blocks as a table: where a definition or a function takes a prefix, this carries them, and its blocks are they (proofs/Blocks).
unfoldable pub joined_prefix : List ℕ → List ℕ
joined_prefix es = table_of (joined_blocks (blocks es))
