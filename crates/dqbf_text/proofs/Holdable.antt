-- Tables of lists that a text can hold, whatever their length.
use Prim.Native.Nat.{ℕ, ◌<◌}
use mathlib.Core.Path.{◌≡◌}
use mathlib.Core.Bool.{Bool, true, false}
use mathlib.Core.List.{List, [], ◌∷◌}

-- Lists of a number that is not 0, such numbers or none, and 0; numbers of at most five digits. The flag says whether a list begins here.
pub data Lists : Bool → List ℕ → Type 0 where
  no_list : Lists true []
  list : {y : ℕ} {more : List ℕ} → (y ≡ 0 → ⊥) → y < 100000 → Lists false more → Lists true (y ∷ more)
  list_end : {more : List ℕ} → Lists true more → Lists false (0 ∷ more)
  member : {x : ℕ} {more : List ℕ} → (x ≡ 0 → ⊥) → x < 100000 → Lists false more → Lists false (x ∷ more)
