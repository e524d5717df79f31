-- Tables that a text can hold, whatever their length.
use Prim.Native.Nat.{ℕ, ◌<◌}
use mathlib.Core.Path.{◌≡◌}
use mathlib.Core.Logic.{◌⊎◌}
use mathlib.Core.Bool.{Bool, true, false}
use mathlib.Core.List.{List, [], ◌∷◌}
use lib.IntN.{ℤ, pos, nat_abs}
use Rattle.text_write.specs.InnerText.{clause_count}

-- Blocks of a mark, nonzero variables and 0; clauses of nonzero literals and 0; numbers of at most five digits.
-- The flag says whether a block or a clause begins here.
pub data Blocks : Bool → List ℕ → Type 0 where
  no_block : Blocks true []
  block : {mark : ℕ} {more : List ℕ} → (mark ≡ 1) ⊎ (mark ≡ 2) → Blocks false more → Blocks true (mark ∷ more)
  block_end : {more : List ℕ} → Blocks true more → Blocks false (0 ∷ more)
  variable : {entry : ℕ} {more : List ℕ} → (entry ≡ 0 → ⊥) → entry < 100000 → Blocks false more → Blocks false (entry ∷ more)

pub data Clauses : Bool → List ℤ → Type 0 where
  no_clause : Clauses true []
  clause_end : {first : Bool} {more : List ℤ} → Clauses true more → Clauses first (pos 0 ∷ more)
  literal : {first : Bool} {entry : ℤ} {more : List ℤ} → (nat_abs entry ≡ 0 → ⊥) → nat_abs entry < 100000 → Clauses false more → Clauses first (entry ∷ more)

pub record Holdable (n : ℕ) (prefix : List ℕ) (clauses : List ℤ) : Type 0 where
  pub number : n < 100000
  pub count : clause_count clauses < 100000
  pub blocks : Blocks true prefix
  pub all_clauses : Clauses true clauses
