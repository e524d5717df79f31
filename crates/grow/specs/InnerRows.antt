-- Inner: what functions of build and add ask of the lent tables.
use Rattle.std.specs.Prelude.{ℕ, ◌≤◌, List, length}

-- Every lent table has n rows.
abbrev pub Room : ℕ → List ℕ → List ℕ → List ℕ → Type 0
Room n classes parents counts = (n ≤ length classes) × (n ≤ length parents) × (n ≤ length counts)
