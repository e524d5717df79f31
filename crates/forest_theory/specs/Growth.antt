-- To be believed: joins with a clause added, and the clauses that leave a universal alone (demand 3).
use Rattle.std.specs.Prelude.{ℕ}
use mathlib.Core.List.{List, Memᴰ}
use Rattle.forest_theory.specs.Reach.{Variables, Depends}

-- A clause that leaves x alone: it has neither x nor any variable of the set of x.
pub record LeavesAlone (X : Variables) (J : ℕ → ℕ → Type 0) (clause : List ℕ) (x : ℕ) : Type 0 where
  pub itself : Memᴰ x clause → ⊥
  pub set : (y : ℕ) → Depends X J x y → Memᴰ y clause → ⊥
