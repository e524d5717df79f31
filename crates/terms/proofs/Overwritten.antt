-- Laws of a table that is overwritten by a list: row after row stored is the list in front, the length stays, and each part is found again.
use Prim.Native.Nat.{ℕ, ◌≤◌}
use mathlib.Core.Path.{◌≡◌, refl, ap, ◌∙◌}
use mathlib.Core.List.{List, ◌++◌}
use native.Mathlib.Omega.{arith}
use native.Mathlib.Nat.{zero-add}
use lib.ListN.{length, take, drop, length-append, length-drop}
use lib.Seq.{sets, sets-eq, take_at, drop_at}
use Rattle.terms.specs.Overwritten.{overwritten}

module _ {A : Type 0} (list before : List A) where
  -- the rows stored one after the other from row 0 on, where there is room for them
  pub stored_overwritten : length list ≤ length before → sets before 0 list ≡ overwritten list before
  stored_overwritten room = sets-eq list before 0 (omega arith) ∙ ap (λ (k : ℕ). list ++ drop k before) (zero-add (length list))

  pub overwritten_length : length list ≤ length before → length (overwritten list before) ≡ length before
  overwritten_length room =
      let all = length-append list (drop (length list) before) in
      let past = length-drop (length list) before in
      omega arith

  -- and where the length stayed, there was room
  pub overwritten_room : length (overwritten list before) ≡ length before → length list ≤ length before
  overwritten_room same = let all = length-append list (drop (length list) before) in omega arith

  pub overwritten_front : take (length list) (overwritten list before) ≡ list
  overwritten_front = take_at list (drop (length list) before) (length list) refl

  pub overwritten_past : drop (length list) (overwritten list before) ≡ drop (length list) before
  overwritten_past = drop_at list (drop (length list) before) (length list) refl
