-- Inner: the deepest existential of a clause.
use Rattle.std.specs.Prelude.{ℕ, ◌≤◌, ◌<◌, ◌≡◌, List, ◌≢◌, ℤ, length, get_or}
use Rattle.terms.specs.Literals.{variable_of}
use Rattle.formula.specs.Tables.{literal_at}

-- The variable of entry e of a clause.
abbrev pub variable_in : List ℤ → ℕ → ℕ
variable_in ls e = variable_of (literal_at ls e)

-- r is the deepest existential of a clause; of depth 0 if it has none.
pub record Deepest (depths : List ℕ) (ls : List ℤ) (r : ℕ) : Type 0 where
  pub most : (e : ℕ) → e < length ls → get_or depths (variable_in ls e) 0 ≤ get_or depths r 0
  pub listed : get_or depths r 0 ≢ 0 → (e : ℕ) × (e < length ls) × (variable_in ls e ≡ r)
