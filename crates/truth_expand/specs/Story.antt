-- The story of an error that looks right (rule 17.3, rule 19.5): a search that starts one existential block too far in loses a member. The formula is
-- the smallest on which that changes truth with every variable in use and a member found: a 1, e 2, a 3, e 4, clauses {1 2 3} {-2 -4} {-1 4}.
use Rattle.std.specs.Prelude.{ℕ, ◌+◌, ◌≡◌, true, [], ◌∷◌, pos, negsuc}
use Rattle.formula.specs.Lent.{Formula, formula_of}
use Rattle.formula.specs.Meaning.{level, is_existential}
use Rattle.forest_theory.specs.Reach.{From, Reach}
use Rattle.forest_tables.specs.Formula.{Shares}
use Rattle.forest_tables.specs.Lent.{variables_of}

abbrev pub story : Formula
story = formula_of 4 (2 ∷ 1 ∷ 0 ∷ 1 ∷ 2 ∷ 0 ∷ 2 ∷ 3 ∷ 0 ∷ 1 ∷ 4 ∷ 0 ∷ [])
    (pos 1 ∷ pos 2 ∷ pos 3 ∷ pos 0 ∷ negsuc 1 ∷ negsuc 3 ∷ pos 0 ∷ negsuc 0 ∷ pos 4 ∷ pos 0 ∷ [])

-- the existentials that a search from x finds that starts so many blocks behind the block of x
pub record FoundFrom (blocks : ℕ) (f : Formula) (x y : ℕ) : Type 0 where
  pub existential : is_existential f.n f.prefix y ≡ true
  pub reached : Reach (Shares f.clauses) (From (variables_of f) (blocks + level f.prefix x)) x y

-- Too far in: the first existential block behind x, which is the next one, is passed over.
abbrev pub FoundTooFarIn : Formula → ℕ → ℕ → Type 0
FoundTooFarIn f x y = FoundFrom 2 f x y
