-- What an answer says: it is settled by its order and by what is asked for, and it holds by any other order that says the same.
use Prim.Native.Nat.{ℕ}
use mathlib.Core.Path.{◌≡◌, sym, ap, ◌∙◌}
use mathlib.Core.List.{List}
use mathlib.Core.Logic.{◌↔◌}
use lib.ListN.{length}
use Rattle.terms.specs.Refusals.{Causes, NoneOf}
use Rattle.std.specs.Prelude.{Result, Ok, Err}
use Rattle.terms.specs.declared.Point.{Point}
use Rattle.terms.specs.declared.Variable.{Variable}
use Rattle.terms.specs.Listed.{Listed}
use Rattle.terms.specs.Overwritten.{overwritten}
use Rattle.terms.specs.Says.{Said, gives, refuses, Answer, said, entry_said}
use Rattle.terms.specs.Answers.{Settles, Answered, AnsweredNumber, InFront, Filling, Listing}
use Rattle.terms.proofs.Verdicts.{first_or_none, refusal_unique}
use Rattle.terms.proofs.Orders.{Carries}
use Rattle.terms.proofs.Listed.{listed_one}

-- The ascending list of what is the same is the same list.
pub listed-as : {P Q : ℕ → Type 0} {list : List ℕ} → ((v : ℕ) → P v ↔ Q v) → Listed P list → Listed Q list
listed-as same l = record { ascending = l.ascending; each = λ v m. (same v).0 (l.each v m); all = λ v q. l.all v ((same v).1 q) }

-- What was lent settles what a call answers that fills a table with a list, if there is one list, and every entry of the table that it fills.
pub filling-settled : (order : List Causes) (L : List ℕ → Type 0)
    → ((list other : List ℕ) → L list → L other → list ≡ other) → (before after after' : List ℕ)
    (r r' : Answer ℕ) → Filling order L before after r → Filling order L before after' r' → (r ≡ r') × (after ≡ after')
filling-settled order L one before after after' (Ok k) (Ok k') (none, a) (none', b) =
    let same = one a.0 b.0 a.1 b.1 in
    (ap Ok (a.2 ∙ ap length same ∙ sym b.2), a.3 ∙ ap (λ (list : List ℕ). overwritten list before) same ∙ sym b.3)
filling-settled order L one before after after' (Ok k) (Err r) (none, a) (first, b) = absurd (first_or_none order _ _ first none)
filling-settled order L one before after after' (Err r) (Ok k) (first, a) (none, b) = absurd (first_or_none order _ _ first none)
filling-settled order L one before after after' (Err r) (Err r') (first, a) (first', b) =
    (ap Err (refusal_unique order r r' first first'), a ∙ sym b)

-- So for a call that lists numbers.
pub listing-settled : (order : List Causes) (P : ℕ → Type 0) (before after after' : List ℕ) (r r' : Answer ℕ)
    → Listing order P before after r → Listing order P before after' r' → (r ≡ r') × (after ≡ after')
listing-settled order P before after after' r r' l l' = filling-settled order (Listed P) listed_one before after after' r r' l l'

-- What was lent settles a number, if there is one of which P holds.
pub numbered-settled : (order : List Causes) (P : ℕ → Type 0) → ((k k' : ℕ) → P k → P k' → k ≡ k')
    → (r r' : Answer ℕ) → AnsweredNumber order P r → AnsweredNumber order P r' → r ≡ r'
numbered-settled order P one (Ok k) (Ok k') (none, a) (none', b) = ap Ok (one k k' a b)
numbered-settled order P one (Ok k) (Err r) (none, a) (first, b) = absurd (first_or_none order _ _ first none)
numbered-settled order P one (Err r) (Ok k) (first, b) (none, a) = absurd (first_or_none order _ _ first none)
numbered-settled order P one (Err r) (Err r') (first, a) (first', b) =
    ap Err (refusal_unique order r r' first first')

-- And a class with its rises, if there is one of which P holds.
one-variable : (a b : Variable) → a.0 ≡ b.0 → a ≡ b
one-variable a b q = λ i. record { 0 = q i }

one-point : (e e' : Point) → e.class ≡ e'.class → e.rises ≡ e'.rises → e ≡ e'
one-point e e' q r = λ i. record { class = q i; rises = r i }

pub answered-settled : (order : List Causes) (P : ℕ → ℕ → Type 0)
    → (NoneOf order → (c c' k k' : ℕ) → P c k → P c' k' → (c ≡ c') × (k ≡ k')) → (r r' : Answer Point) → Answered order P r → Answered order P r' → r ≡ r'
answered-settled order P one (Ok e) (Ok e') (none, a) (none', b) =
    let (same, rises) = one none e.class.0 e'.class.0 e.rises e'.rises a b in
    ap Ok (one-point e e' (one-variable e.class e'.class same) rises)
answered-settled order P one (Ok e) (Err r) (none, a) (first, b) = absurd (first_or_none order _ _ first none)
answered-settled order P one (Err r) (Ok e) (first, b) (none, a) = absurd (first_or_none order _ _ first none)
answered-settled order P one (Err r) (Err r') (first, a) (first', b) =
    ap Err (refusal_unique order r r' first first')

-- What is promised by one order is promised by another that says as much.
pub carry_settles : {A : Type 0} (given : A → Type 0) (kept : Type 0) (said : Said A) (order order' : List Causes)
    → Carries order order' → Settles order given kept said → Settles order' given kept said
carry_settles given kept (gives values) order order' c (none, holds) = (c.none none, holds)
carry_settles given kept (refuses number place) order order' c (first, holds) = (c.first number place first, holds)

pub carry-filling : (L : List ℕ → Type 0) (before after : List ℕ) (r : Answer ℕ) (order order' : List Causes)
    → Carries order order' → Filling order L before after r → Filling order' L before after r
carry-filling L before after r = carry_settles (InFront L before after) (after ≡ before) (said r)

pub carry-numbered : (P : ℕ → Type 0) (r : Answer ℕ) (order order' : List Causes) → Carries order order' → AnsweredNumber order P r → AnsweredNumber order' P r
carry-numbered P r = carry_settles P (Unit {0}) (said r)

pub carry-answered : (P : ℕ → ℕ → Type 0) (r : Answer Point) (order order' : List Causes) → Carries order order' → Answered order P r → Answered order' P r
carry-answered P r = carry_settles (λ (point : ℕ × ℕ). P point.0 point.1) (Unit {0}) (entry_said r)
