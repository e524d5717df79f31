-- One order of refusals for another: when what the first says, the second says as well.
use Prim.Native.Nat.{ℕ}
use mathlib.Core.List.{List, [], ◌∷◌, ◌++◌}
use mathlib.Core.Logic.{inl, inr}
use Rattle.terms.specs.Refusals.{Causes, First, FirstOf, NoneOf, Judged}
use Rattle.std.specs.Prelude.{Result, Ok, Err}
use Rattle.terms.specs.Says.{Answer, gives, refuses}
use Rattle.terms.proofs.Verdicts.{judges_later}

-- What one order says, another says as well.
pub record Carries (order order' : List Causes) : Type 0 where
  pub none : NoneOf order → NoneOf order'
  pub first : (number place : ℕ) → FirstOf order number place → FirstOf order' number place

pub carry_judged : {A : Type 0} (order order' : List Causes) → Carries order order' → (v : Answer A) → Judged order v → Judged order' v
carry_judged order order' c (Ok values) judged = c.none judged
carry_judged order order' c (Err refusal) judged = c.first _ _ judged

-- An order carries over to itself; with causes put in front of each, where the two say the same; behind a common front; and by way of a third order.
pub same_order : (order : List Causes) → Carries order order
same_order order = record { none = λ none. none; first = λ number place first. first }

first_as : {C D : Causes} → ((k p : ℕ) → C k p → D k p) → ((k p : ℕ) → D k p → C k p) → (number place : ℕ) → First C number place → First D number place
first_as there back number place f =
    record {
      holds = there number place f.holds;
      leftmost = λ number' place' cause. f.leftmost number' place' (back number' place' cause);
      lowest = λ number' cause. f.lowest number' (back number' place cause);
    }

pub one_more : (C D : Causes) {later later' : List Causes} → ((k p : ℕ) → C k p → D k p) → ((k p : ℕ) → D k p → C k p) → Carries later later' → Carries (C ∷ later) (D ∷ later')
one_more C D {later} {later'} there back more = record { none = λ none. (λ k p d. none.0 k p (back k p d), more.none none.1); first = first }
  where
    first : (number place : ℕ) → FirstOf (C ∷ later) number place → FirstOf (D ∷ later') number place
    first number place (inl f) = inl (first_as there back number place f)
    first number place (inr f) = inr (λ k p d. f.0 k p (back k p d), more.first number place f.1)

pub behind : (front : List Causes) {later later' : List Causes} → Carries later later' → Carries (front ++ later) (front ++ later')
behind [] more = more
behind (causes ∷ front) more = one_more causes causes (λ k p cause. cause) (λ k p cause. cause) (behind front more)

pub carries_then : {order order' order'' : List Causes} → Carries order order' → Carries order' order'' → Carries order order''
carries_then a b = record { none = λ none. b.none (a.none none); first = λ number place f. b.first number place (a.first number place f) }

-- Of an order whose front has no cause: what it says is said of its later part.
pub none_later : (front later : List Causes) → NoneOf (front ++ later) → NoneOf later
none_later [] later none = none
none_later (causes ∷ front) later none = none_later front later none.1

pub later_first : (front later : List Causes) (number place : ℕ) → NoneOf front → FirstOf (front ++ later) number place → FirstOf later number place
later_first [] later number place none first = first
later_first (causes ∷ front) later number place none (inl first) = absurd (none.0 number place first.holds)
later_first (causes ∷ front) later number place none (inr first) = later_first front later number place none.1 first.1

-- What is said behind causes of which none holds is said by the whole order.
pub behind_none : (front later : List Causes) → NoneOf front → Carries later (front ++ later)
behind_none front later none =
    record {
      none = judges_later {A = Unit {0}} front later (gives tt) none;
      first = λ number place. judges_later {A = Unit {0}} front later (refuses number place) none;
    }

-- Two fronts of which no cause holds may be exchanged.
pub exchanged : (front front' later : List Causes) → NoneOf front → NoneOf front' → Carries (front ++ later) (front' ++ later)
exchanged front front' later none none' =
    let back = behind_none front' later none' in
    record { none = λ all. back.none (none_later front later all); first = λ number place f. back.first number place (later_first front later number place none f) }
