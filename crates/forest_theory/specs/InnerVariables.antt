-- Inner: what every formula's variables have, which theorems take as a premise.
use Rattle.std.specs.Prelude.{ℕ, ◌≤◌, ◌≡◌, true, false, ◌≢◌}
use Rattle.forest_theory.specs.Reach.{Variables}

-- An existential is one of the variables 1 to count.
pub record Lawful (X : Variables) : Type 0 where
  pub within : (v : ℕ) → X.ex v ≡ true → (1 ≤ v) × (v ≤ X.count)

-- x is universal, and since a block has one quantifier, no existential stands in its block.
pub record Universal (X : Variables) (x : ℕ) : Type 0 where
  pub universal : X.ex x ≡ false
  pub alone : (y : ℕ) → X.ex y ≡ true → X.lev y ≢ X.lev x
