-- Inner: the expanded formula by a table of copies, in which a variable has the number of its copy, or 0 where it is no member, as the code carries it. The
-- laws of `Tied` show that it is the expanded formula of Expansion, each way. No promise of a call rests on it.
use Rattle.std.specs.Prelude.{ℕ, suc, ◌+◌, ◌-◌, Bool, true, false, cond, not, ◌&&◌, ◌||◌, List, [], ◌∷◌, ◌++◌, map, eqb, ℤ, pos, negsuc, neg_ℤ, length}
use Rattle.terms.specs.Literals.{variable_of}
use Rattle.formula.specs.Meaning.{blocks, clauses, always_true}
use Rattle.formula_rules.specs.Joined.{joined_blocks, table_of}
use Rattle.expand_clauses.specs.Expansion.{satisfied, has_x, without, clause_table}
use Rattle.expand_clauses.specs.Total.{x_literals}

-- The copy of a variable: the first member has the number `next`, and each further one the number after; 0 for what is no member.
unfoldable pub copy_from : ℕ → List ℕ → ℕ → ℕ
copy_from next [] v = 0
copy_from next (member ∷ members) v = cond (eqb member v) next (copy_from (suc next) members v)

-- the copies of the members of a list, numbered from n + 1
abbrev pub copy_of : ℕ → List ℕ → ℕ → ℕ
copy_of n members = copy_from (suc n) members

-- a variable with its copy, if it has one, after it
unfoldable pub with_copy : (ℕ → ℕ) → ℕ → List ℕ
with_copy copy v = cond (eqb (copy v) 0) (v ∷ []) (v ∷ copy v ∷ [])

-- the variables of a block: x leaves it, and each copy is placed after its original
unfoldable pub placed : ℕ → (ℕ → ℕ) → List ℕ → List ℕ
placed x copy [] = []
placed x copy (v ∷ variables) = cond (eqb v x) (placed x copy variables) (with_copy copy v ++ placed x copy variables)

unfoldable pub expanded_block : ℕ → (ℕ → ℕ) → List ℕ → List ℕ
expanded_block x copy [] = []
expanded_block x copy (mark ∷ variables) = mark ∷ placed x copy variables

-- the prefix: empty blocks go, and equal neighbours join
unfoldable pub expanded_prefix : ℕ → (ℕ → ℕ) → List ℕ → List ℕ
expanded_prefix x copy es = table_of (joined_blocks (map (expanded_block x copy) (blocks es)))

-- a clause with a member
unfoldable pub has_member : (ℕ → ℕ) → List ℤ → Bool
has_member copy [] = false
has_member copy (literal ∷ more) = not (eqb (copy (variable_of literal)) 0) || has_member copy more

-- a member renamed to its copy, its sign kept; any other literal stays
unfoldable pub renamed : (ℕ → ℕ) → ℤ → ℤ
renamed copy (pos v) = cond (eqb (copy v) 0) (pos v) (pos (copy v))
renamed copy (negsuc v) = cond (eqb (copy (suc v)) 0) (negsuc v) (neg_ℤ (pos (copy (suc v))))

-- with x true members are renamed, with x false they are not
unfoldable pub named : Bool → (ℕ → ℕ) → ℤ → ℤ
named false copy literal = literal
named true copy literal = renamed copy literal

-- Whether a clause has a copy with x at a value. An always-true clause gives none, a satisfied copy is left out, and only a clause with x or a member
-- has one with x true.
unfoldable pub has_copy : Bool → ℕ → (ℕ → ℕ) → List ℤ → Bool
has_copy value x copy clause = not (always_true clause) && not (satisfied value x clause) && (not value || (has_x x clause || has_member copy clause))

-- the copies of some clauses with x at a value, in clause order
unfoldable pub copies : Bool → ℕ → (ℕ → ℕ) → List (List ℤ) → List (List ℤ)
copies value x copy [] = []
copies value x copy (clause ∷ later) =
    cond (has_copy value x copy clause) (map (named value copy) (without x clause) ∷ copies value x copy later) (copies value x copy later)

-- the clauses: first copies with x false, then second copies with x true
unfoldable pub expanded_list : ℕ → (ℕ → ℕ) → List ℤ → List (List ℤ)
expanded_list x copy ls = copies false x copy (clauses ls) ++ copies true x copy (clauses ls)

unfoldable pub expanded_clauses : ℕ → (ℕ → ℕ) → List ℤ → List ℤ
expanded_clauses x copy ls = clause_table (expanded_list x copy ls)

-- a clause not always true counts once without x or member, twice with a member but not x, and with x once less its x literals
unfoldable pub counts : ℕ → (ℕ → ℕ) → List ℤ → ℕ
counts x copy clause =
    cond (always_true clause) 0
    (cond (has_x x clause) (length clause - x_literals x clause)
    (cond (has_member copy clause) (length clause + length clause) (length clause)))

unfoldable pub total_of : ℕ → (ℕ → ℕ) → List (List ℤ) → ℕ
total_of x copy [] = 0
total_of x copy (clause ∷ later) = counts x copy clause + total_of x copy later

unfoldable pub literal_total : ℕ → (ℕ → ℕ) → List ℤ → ℕ
literal_total x copy ls = total_of x copy (clauses ls)
