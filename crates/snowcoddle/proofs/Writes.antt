-- The places of writing fit 32 bits, whatever stands in the order before 15 and 14; and how writing is told.
use Rattle.terms.specs.Says.{Answer}
use Prim.Native.Nat.{ℕ, ◌≤◌}
use mathlib.Core.Path.{◌≡◌}
use mathlib.Core.List.{List, [], ◌∷◌, ◌++◌}
use native.Mathlib.Omega.{arith}
use Rattle.terms.specs.Refusals.{Causes}
use Rattle.text_write.specs.Texts.{Overlong}
use Rattle.text_write.specs.Stored.{ShortOut, short_out, Stored}
use Rattle.text_write.specs.InnerOrders.{write_order, WritesAfter}
use Rattle.c_answers.specs.InnerCells.{Fits, Any, Laid, said}
use Rattle.snowcoddle.specs.Told.{Told}
use Rattle.snowcoddle.proofs.Places.{Small, small_then, small_within}
use Rattle.snowcoddle.proofs.Telling.{fits_known, tell_known}
use Rattle.snowcoddle.proofs.Texts.{overlong_place}

short_place : {text out : List ℕ} {k p : ℕ} → ShortOut text out k p → p ≤ 0
short_place (short_out l) = omega arith

small_write : (order : List Causes) (text out : List ℕ) → Small order → Small (order ++ write_order text out)
small_write order text out small =
    small_then order (write_order text out) small
    (λ _. small_then (Overlong text ∷ []) (ShortOut text out ∷ []) (small_within (Overlong text) 65536 (omega arith) (λ k p cause. overlong_place cause))
    (λ _. small_within (ShortOut text out) 0 (omega arith) (λ k p cause. short_place cause)))

module _ (order : List Causes) (text out out' : List ℕ) where
  pub fits_write : (answer : Answer ℕ) → Small order → WritesAfter order text out out' answer → Fits Any (said answer)
  fits_write answer small known =
      fits_known (order ++ write_order text out) (Stored text out out') (out' ≡ out) Any (said answer) (small_write order text out small)
      (λ _ _ _. tt) known

  pub tell_write : (answer : Answer ℕ) {count count' place place' returned : ℕ} → Laid (said answer) count count' place place' returned → WritesAfter order text out out' answer
      → Told (order ++ write_order text out) (Stored text out out' count') ((count' ≡ count) × (out' ≡ out)) returned place place'
  tell_write answer laid known = tell_known (order ++ write_order text out) (Stored text out out') (out' ≡ out) laid known (λ q k. (q, k))
