-- Inner: joins with a clause added, as a relation.
use Rattle.std.specs.Prelude.{ℕ}
use mathlib.Core.List.{List, Memᴰ}

-- The joins J with a clause added.
pub data Added (J : ℕ → ℕ → Type 0) (clause : List ℕ) (v y : ℕ) : Type 0 where
  before : J v y → Added J clause v y
  added : Memᴰ v clause → Memᴰ y clause → Added J clause v y
