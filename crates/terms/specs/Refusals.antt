-- Refusals: what it is to be the first cause in a call's order, and what an answer then says (demand 1, rule 8.2, rule 18.9).
use Rattle.std.specs.Prelude.{ℕ, ◌≤◌, ◌≡◌, List, [], ◌∷◌, ◌⊎◌}
use Rattle.terms.specs.Says.{Said, gives, refuses, Answer, said}

-- Causes that are looked for together: which refusal number has a cause at which place.
abbrev pub Causes : Type 1
Causes = ℕ → ℕ → Type 0

-- One refusal, at place 0, whenever a condition holds.
abbrev pub At0 : ℕ → Type 0 → Causes
At0 k condition number place = (number ≡ k) × (place ≡ 0) × condition

-- No number has a cause anywhere.
abbrev pub None : Causes → Type 0
None causes = (number place : ℕ) → causes number place → ⊥

-- The first cause from the left; at one place, the one with the lowest number.
pub record First (causes : Causes) (number place : ℕ) : Type 0 where
  pub holds : causes number place
  pub leftmost : (number' place' : ℕ) → causes number' place' → place ≤ place'
  pub lowest : (number' : ℕ) → causes number' place → number ≤ number'

-- The first cause in an order: causes that stand earlier in the list come before all that stand later.
abbrev pub FirstOf : List Causes → ℕ → ℕ → Type 0
FirstOf [] number place = ⊥
FirstOf (causes ∷ later) number place = First causes number place ⊎ (None causes × FirstOf later number place)

-- None of the causes of an order holds.
abbrev pub NoneOf : List Causes → Type 0
NoneOf [] = Unit {0}
NoneOf (causes ∷ later) = None causes × NoneOf later

-- What is said is right by an order: accepted if no cause holds, refused with the number and the place of the first one.
abbrev pub Judges : {Values : Type 0} → List Causes → Said Values → Type 0
Judges order (gives values) = NoneOf order
Judges order (refuses number place) = FirstOf order number place

-- so of an answer
abbrev pub Judged : {Values : Type 0} → List Causes → Answer Values → Type 0
Judged order answer = Judges order (said answer)
