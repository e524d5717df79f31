-- Two orders that have no cause in front say the same by what is behind it; and what a call promises that fills a table goes over.
use Prim.Native.Nat.{ℕ}
use mathlib.Core.List.{List, ◌++◌}
use Rattle.std.specs.Prelude.{Ok, Err}
use Rattle.terms.specs.Answers.{Filling}
use Rattle.terms.specs.Refusals.{Causes, NoneOf}
use Rattle.terms.specs.Says.{Answer}
use Rattle.terms.proofs.Orders.{Carries, carries_then, none_later, later_first, behind_none}

-- Behind causes of which none holds, what carries over does so behind others of which none holds.
pub carry_over : (order order' : List Causes) {more more' : List Causes} → NoneOf order → NoneOf order' → Carries more more'
    → Carries (order ++ more) (order' ++ more')
carry_over order order' {more} {more'} none none' over = carries_then own (carries_then over (behind_none order' more' none'))
  where
    own : Carries (order ++ more) more
    own = record { none = none_later order more; first = λ number place. later_first order more number place none }

-- A promise to fill a table goes over to an order that says the same and to the same list.
pub filling_over : {order order' : List Causes} (L L' : List ℕ → Type 0) → Carries order order' → ((list : List ℕ) → L list → L' list)
    → (before after : List ℕ) (r : Answer ℕ) → Filling order L before after r → Filling order' L' before after r
filling_over L L' over same before after (Ok k) (none, (list, listed, size, is)) = (over.none none, (list, same list listed, size, is))
filling_over L L' over same before after (Err refusal) (first, stays) = (over.first _ _ first, stays)
