-- Inner: what functions tell of lent rows by the level table. Nobody needs to believe this: a proof ties it to Causes.
use Rattle.std.specs.Prelude.{Option, None, Some}
use Rattle.terms.specs.declared.Variable.{Variable}
use Rattle.std.specs.Prelude.{ℕ, ◌≤◌, ◌<◌, ◌≡◌, Bool, true, false, List, [], ◌≢◌}
use Rattle.forest_theory.specs.Tables.{Table, row, lent, ClassRow, ParentRow, Row}
use Rattle.forest_tables.specs.InnerTabled.{existential_in, tabled}

-- a flag tells whether P holds
abbrev pub Tells : Bool → Type 0 → Type 0
Tells true P = P
Tells false P = P → ⊥

-- the lent rows as a table
abbrev pub rows_of : ℕ → List ℕ → List ℕ → Table
rows_of n classes parents = lent (tabled n [] []) classes parents

-- c is a class name: an existential that names itself
abbrev pub NamesClass : ℕ → List Bool → List ℕ → ℕ → Type 0
NamesClass n universals classes c = (existential_in n universals c ≡ true) × (row n classes c ≡ c)

-- the class row of v is right, its parent row, and both
abbrev pub RightClass : ℕ → List ℕ → List Bool → List ℕ → ℕ → Type 0
RightClass n levels universals classes = ClassRow (tabled n levels universals) (rows_of n classes [])

abbrev pub RightParent : ℕ → List ℕ → List Bool → List ℕ → List ℕ → ℕ → Type 0
RightParent n levels universals classes parents = ParentRow (tabled n levels universals) (rows_of n classes parents)

abbrev pub RightRow : ℕ → List ℕ → List Bool → List ℕ → List ℕ → ℕ → Type 0
RightRow n levels universals classes parents = Row (tabled n levels universals) (rows_of n classes parents)

-- bad is the first of 1 to n of which P does not hold, or 0 where it holds of all
pub record FirstBad (P : ℕ → Type 0) (n bad : ℕ) : Type 0 where
  pub right : (v : ℕ) → 1 ≤ v → v ≤ n → (bad ≢ 0 → v < bad) → P v
  pub wrong : bad ≢ 0 → (bad ≤ n) × (P bad → ⊥)

-- so of the variable that is found, if there is one
abbrev pub BadFound : (ℕ → Type 0) → ℕ → Option Variable → Type 0
BadFound P n None = FirstBad P n 0
BadFound P n (Some v) = (v.0 ≢ 0) × FirstBad P n v.0
