-- Inner: the variables of a formula as the level table has them, row v for variable v. Nobody needs to believe this: a proof ties it to Formula.
use Rattle.std.specs.Prelude.{ℕ, Bool, false, not, ◌&&◌, List, leb, get_or}
use Rattle.forest_theory.specs.Reach.{Variables}

-- one of 1 to n, and existential by the table; or universal
unfoldable pub existential_in : ℕ → List Bool → ℕ → Bool
existential_in n universals v = leb 1 v && leb v n && not (get_or universals v false)

unfoldable pub universal_in : ℕ → List Bool → ℕ → Bool
universal_in n universals v = leb 1 v && leb v n && get_or universals v false

-- the variables as a whole
abbrev pub tabled : ℕ → List ℕ → List Bool → Variables
tabled n levels universals = record { count = n; lev = λ v. get_or levels v 0; ex = existential_in n universals }
