-- When a formula is true, by strategies (rule 19.1). A formula is given by which variables are existential (all others are universal), by which
-- existentials may depend on which universals, and by its clauses; each of them may be any.
use Rattle.std.specs.Prelude.{ℕ, ◌≡◌, Bool, true, false, not, cond, ℤ, pos, negsuc}
use mathlib.Core.List.{List, Memᴰ}
use Rattle.terms.specs.Literals.{variable_of}

-- a value for each variable
abbrev pub Assignment : Type 0
Assignment = ℕ → Bool

-- the value of a literal by that of its variable: the same for the variable itself, the other for its negation
abbrev pub literal_value : ℤ → Bool → Bool
literal_value (pos v) value = value
literal_value (negsuc v) value = not value

-- A clause is satisfied by an assignment: some literal of the clause is true.
pub record Satisfied (a : Assignment) (clause : List ℤ) : Type 0 where
  pub literal : ℤ
  pub member : Memᴰ literal clause
  pub holds : literal_value literal (a (variable_of literal)) ≡ true

-- every clause of a list is
abbrev pub AllSatisfied : Assignment → List (List ℤ) → Type 0
AllSatisfied a clauses = (clause : List ℤ) → Memᴰ clause clauses → Satisfied a clause

-- A strategy gives each existential a value, whatever values the universals have.
abbrev pub Strategy : Type 0
Strategy = ℕ → Assignment → Bool

-- the play of an assignment: the universals have their values by it, the existentials theirs by the strategy
abbrev pub played : (ℕ → Bool) → Strategy → Assignment → Assignment
played ex strategy u v = cond (ex v) (strategy v u) (u v)

-- A strategy is local: an existential y has one value for two assignments that agree on every universal x on which y may depend (may x y).
abbrev pub Local : (ℕ → Bool) → (ℕ → ℕ → Type 0) → Strategy → Type 0
Local ex may strategy =
    (y : ℕ) → ex y ≡ true → (u w : Assignment) → ((x : ℕ) → ex x ≡ false → may x y → u x ≡ w x) → strategy y u ≡ strategy y w

-- It wins: in every play all clauses are satisfied.
abbrev pub Wins : (ℕ → Bool) → List (List ℤ) → Strategy → Type 0
Wins ex clauses strategy = (u : Assignment) → AllSatisfied (played ex strategy u) clauses

-- A formula is true if it has a local strategy that wins.
pub record True (ex : ℕ → Bool) (may : ℕ → ℕ → Type 0) (clauses : List (List ℤ)) : Type 0 where
  pub strategy : Strategy
  pub local : Local ex may strategy
  pub wins : Wins ex clauses strategy
