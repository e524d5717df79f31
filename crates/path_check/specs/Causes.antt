-- The causes of refusals 13 and 24 for a path (rule 8.1, rule 11.2), the order of the call (rule 8.2), and what it promises.
use Rattle.std.specs.Prelude.{ℕ, suc, ◌<◌, ◌≤◌, ◌≡◌, true, List, [], ◌∷◌, ◌⊎◌, ℤ, length}
use Rattle.terms.specs.Refusals.{Causes, At0, Judged}
use Rattle.terms.specs.Says.{Verdict}
use Rattle.formula.specs.Causes.{VariableCount, LengthCause, ClauseCause}
use Rattle.formula.specs.Lent.{Formula}
use Rattle.formula.specs.Meaning.{clauses, always_true}
use Rattle.formula.specs.Tables.{at}
use Rattle.forest_theory.specs.Reach.{Variables}
use Rattle.forest.specs.Causes.{NotUniversal, NotDeeper}
use Rattle.formula_rules.specs.Rules.{read_by, RuleCause, PrefixCauseBy}
use Rattle.forest_tables.specs.Lent.{variables_of}
use Rattle.path_check.specs.Paths.{clause_at, HasVariable, Shared}

-- 13: some clause number of the path is not below the count
abbrev pub NumberOver : ℕ → List ℕ → Type 0
NumberOver count path = (i : ℕ) × (i < length path) × (count ≤ at path i)

-- 13: x not universal; y not existential and deeper than x; some clause number not below the count
abbrev pub Misnamed : Formula → ℕ → ℕ → List ℕ → Type 0
Misnamed f x y path = NotUniversal f.n f.prefix x ⊎ (NotDeeper f.n f.prefix x y ⊎ NumberOver (length (clauses f.clauses)) path)

abbrev pub MisnamedCause : Formula → ℕ → ℕ → List ℕ → Causes
MisnamedCause f x y path = At0 13 (Misnamed f x y path)

-- 24: the path is empty, or fails at an entry
pub data PathCause (X : Variables) (ls : List ℤ) (x y : ℕ) (path : List ℕ) (number place : ℕ) : Type 0 where
  -- the path is empty: place 0
  empty : number ≡ 24 → place ≡ 0 → length path ≡ 0 → PathCause X ls x y path number place
  -- the first clause does not have x
  without_x : number ≡ 24 → place ≡ 0 → 0 < length path → (HasVariable ls (at path 0) x → ⊥) → PathCause X ls x y path number place
  -- a clause is always true
  is_always_true : number ≡ 24 → place < length path → always_true (clause_at ls (at path place)) ≡ true → PathCause X ls x y path number place
  -- neighbours share no existential deeper than x: they fail at the second
  apart : (i : ℕ) → number ≡ 24 → place ≡ suc i → place < length path → (Shared X ls x (at path i) (at path place) → ⊥) → PathCause X ls x y path number place
  -- the last clause does not have y
  without_y : number ≡ 24 → suc place ≡ length path → (HasVariable ls (at path place) y → ⊥) → PathCause X ls x y path number place

-- the order of the path check: 23, 1, 2, prefix from the left, clause literals from the left, 13 for x, y and every clause number, 24
abbrev pub path_order : ℕ → Formula → ℕ → ℕ → List ℕ → List Causes
path_order rule f x y path =
    RuleCause rule ∷ VariableCount f.n ∷ LengthCause f.prefix (length f.clauses) ∷ PrefixCauseBy rule f.n f.prefix
    ∷ ClauseCause f.n f.clauses ∷ MisnamedCause (read_by rule f) x y path ∷ PathCause (variables_of (read_by rule f)) f.clauses x y path ∷ []

-- What the path check promises: its refusals in their order.
abbrev pub PathJudged : ℕ → Formula → ℕ → ℕ → List ℕ → Verdict → Type 0
PathJudged rule f x y path = Judged (path_order rule f x y path)
