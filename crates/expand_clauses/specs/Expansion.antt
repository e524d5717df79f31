-- The formula with one universal x expanded, by the list of its set: the copies of the members and the prefix (rule 12.2), and the clauses (rule 12.3).
use Rattle.std.specs.Prelude.{ℕ, suc, ◌+◌, Bool, true, false, cond, not, ◌&&◌, ◌||◌, List, [], ◌∷◌, ◌++◌, map, eqb, ℤ, pos, negsuc, neg_ℤ}
use Rattle.terms.specs.Literals.{variable_of}
use Rattle.formula.specs.Meaning.{blocks, clauses, always_true}
use Rattle.formula_rules.specs.Joined.{joined_blocks, table_of}

-- a variable is a member: it stands in the list of the set
unfoldable pub is_member : List ℕ → ℕ → Bool
is_member [] v = false
is_member (member ∷ members) v = eqb member v || is_member members v

-- which member it is, from 0
unfoldable pub member_number : List ℕ → ℕ → ℕ
member_number [] v = 0
member_number (member ∷ members) v = cond (eqb member v) 0 (suc (member_number members v))

-- Set members get copies numbered from n + 1 in ascending order, and the list is ascending: the copy of member k is n + 1 + k.
abbrev pub copy_of : ℕ → List ℕ → ℕ → ℕ
copy_of n members v = n + 1 + member_number members v

-- a variable, with its copy after it if it is a member
unfoldable pub with_copy : ℕ → List ℕ → ℕ → List ℕ
with_copy n members v = cond (is_member members v) (v ∷ copy_of n members v ∷ []) (v ∷ [])

-- the variables of a block: x leaves it, and each copy is placed after its original
unfoldable pub placed : ℕ → ℕ → List ℕ → List ℕ → List ℕ
placed x n members [] = []
placed x n members (v ∷ variables) = cond (eqb v x) (placed x n members variables) (with_copy n members v ++ placed x n members variables)

unfoldable pub expanded_block : ℕ → ℕ → List ℕ → List ℕ → List ℕ
expanded_block x n members [] = []
expanded_block x n members (mark ∷ variables) = mark ∷ placed x n members variables

-- the prefix: empty blocks go, and equal neighbours join
unfoldable pub expanded_prefix : ℕ → ℕ → List ℕ → List ℕ → List ℕ
expanded_prefix x n members es = table_of (joined_blocks (map (expanded_block x n members) (blocks es)))

-- a literal that x makes true by its value: x itself if x is true, and its negation if x is false
unfoldable pub made_true : Bool → ℕ → ℤ → Bool
made_true value x (pos v) = value && eqb v x
made_true value x (negsuc v) = not value && eqb (suc v) x

-- a clause that x satisfies by its value: it has such a literal
unfoldable pub satisfied : Bool → ℕ → List ℤ → Bool
satisfied value x [] = false
satisfied value x (literal ∷ more) = made_true value x literal || satisfied value x more

-- a clause with x, in either sign; a clause with a member
unfoldable pub has_x : ℕ → List ℤ → Bool
has_x x [] = false
has_x x (literal ∷ more) = eqb (variable_of literal) x || has_x x more

unfoldable pub has_member : List ℕ → List ℤ → Bool
has_member members [] = false
has_member members (literal ∷ more) = is_member members (variable_of literal) || has_member members more

-- the literals of a clause that are not of x
unfoldable pub without : ℕ → List ℤ → List ℤ
without x [] = []
without x (literal ∷ more) = cond (eqb (variable_of literal) x) (without x more) (literal ∷ without x more)

-- a member renamed to its copy, its sign kept; any other literal stays
unfoldable pub renamed : ℕ → List ℕ → ℤ → ℤ
renamed n members (pos v) = cond (is_member members v) (pos (copy_of n members v)) (pos v)
renamed n members (negsuc v) = cond (is_member members (suc v)) (neg_ℤ (pos (copy_of n members (suc v)))) (negsuc v)

-- with x true members are renamed, with x false they are not
unfoldable pub named : Bool → ℕ → List ℕ → ℤ → ℤ
named false n members literal = literal
named true n members literal = renamed n members literal

-- Whether a clause has a copy with x at a value. An always-true clause gives none, a satisfied copy is left out, and only a clause with x or a member
-- has one with x true.
unfoldable pub has_copy : Bool → ℕ → List ℕ → List ℤ → Bool
has_copy value x members clause = not (always_true clause) && not (satisfied value x clause) && (not value || (has_x x clause || has_member members clause))

-- the copies of some clauses with x at a value, in clause order
unfoldable pub copies : Bool → ℕ → ℕ → List ℕ → List (List ℤ) → List (List ℤ)
copies value x n members [] = []
copies value x n members (clause ∷ later) =
    cond (has_copy value x members clause) (map (named value n members) (without x clause) ∷ copies value x n members later)
    (copies value x n members later)

-- the clauses: first copies with x false, then second copies with x true
unfoldable pub expanded_list : ℕ → ℕ → List ℕ → List ℤ → List (List ℤ)
expanded_list x n members ls = copies false x n members (clauses ls) ++ copies true x n members (clauses ls)

-- the table that holds some clauses, each closed by 0
unfoldable pub clause_table : List (List ℤ) → List ℤ
clause_table [] = []
clause_table (clause ∷ later) = clause ++ (pos 0 ∷ clause_table later)

unfoldable pub expanded_clauses : ℕ → ℕ → List ℕ → List ℤ → List ℤ
expanded_clauses x n members ls = clause_table (expanded_list x n members ls)
