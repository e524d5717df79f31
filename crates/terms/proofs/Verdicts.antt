-- Laws of first causes and verdicts (rule 8.2): how a first cause is found, and that what was lent settles the verdict.
use Prim.Native.Nat.{ℕ, ◌≤◌, ◌<◌}
use mathlib.Core.Path.{◌≡◌, refl, sym, ap, ap₂, subst}
use mathlib.Core.List.{List, [], ◌∷◌, ◌++◌}
use mathlib.Core.Logic.{inl, inr}
use native.Mathlib.Nat.{le_antisymm}
use native.Mathlib.Omega.{arith}
use Rattle.std.specs.Prelude.{Result, Ok, Err}
use Rattle.std.specs.Result.{IsErrAnd}
use Rattle.std.proofs.lemmas.Result.{err_from_is_err_and}
use Rattle.terms.specs.declared.Refusal.{Refusal}
use Rattle.terms.specs.Says.{Said, gives, refuses, Answer, Verdict, said, fault_number}
use Rattle.terms.specs.Refusals.{Causes, At0, None, First, FirstOf, NoneOf, Judges, Judged}
use Rattle.terms.specs.Answers.{verdict_by}
use Rattle.terms.proofs.Faults.{one_refusal}

-- A cause that has none to its left, and no lower number at its place, is the first.
pub first_at : {causes : Causes} {number place : ℕ} → ((e : ℕ) → e < place → (k : ℕ) → causes k e → ⊥) → causes number place
    → ((k : ℕ) → causes k place → number ≤ k) → First causes number place
first_at {place = place} clean here low =
    record { holds = here; leftmost = λ k e cause. let left : ¬ (e < place) = λ l. clean e l k cause in omega arith; lowest = low }

-- A single refusal at place 0 is the first of its causes where its condition holds, and there is none where it does not.
pub at0_first : (k : ℕ) {condition : Type 0} → condition → First (At0 k condition) k 0
at0_first k holds =
    record { holds = (refl, refl, holds); leftmost = λ _ _ _. omega arith; lowest = λ k' cause. let q = cause.0 in omega arith }

pub at0_none : (k : ℕ) {condition : Type 0} → ¬ condition → None (At0 k condition)
at0_none k not number place cause = not cause.2

-- Orders one after the other: a refusal of the first stands, and where the first accepts the second judges.
pub first_of_more : (order more : List Causes) (k p : ℕ) → FirstOf order k p → FirstOf (order ++ more) k p
first_of_more [] more k p f = absurd f
first_of_more (causes ∷ later) more k p (inl f) = inl f
first_of_more (causes ∷ later) more k p (inr f) = inr (f.0, first_of_more later more k p f.1)

pub judges_later : {A : Type 0} (order more : List Causes) (told : Said A) → NoneOf order → Judges more told → Judges (order ++ more) told
judges_later [] more told none judged = judged
judges_later (causes ∷ later) more (gives values) none judged = (none.0, judges_later later more (gives values) none.1 judged)
judges_later {A = A} (causes ∷ later) more (refuses k p) none judged = inr (none.0, judges_later {A = A} later more (refuses k p) none.1 judged)

pub refused_first : {A : Type 0} (order more : List Causes) {v : Answer A} {r : Refusal} → v ≡ Err r → Judged order v
    → FirstOf (order ++ more) (fault_number r.0) r.1
refused_first order more {r = r} q judged = first_of_more order more _ _ (subst (Judged order) q judged)

pub accepted_then : {A B : Type 0} (order more : List Causes) {v : Answer A} {a : A} (w : Answer B) → v ≡ Ok a → Judged order v → Judged more w → Judged (order ++ more) w
accepted_then order more w q judged later = judges_later order more (said w) (subst (Judged order) q judged) later

-- The first of some causes is one number at one place; so is the first in an order.
first_same : {causes : Causes} (k p k' p' : ℕ) → First causes k p → First causes k' p' → (k ≡ k') × (p ≡ p')
first_same {causes} k p k' p' f g =
    let q : p ≡ p' = le_antisymm (f.leftmost k' p' g.holds) (g.leftmost k p f.holds) in
    let here : causes k' p = subst (λ (e : ℕ). causes k' e) (sym q) g.holds in
    let there : causes k p' = subst (λ (e : ℕ). causes k e) q f.holds in
    (le_antisymm (f.lowest k' here) (g.lowest k there), q)

pub first_of_same : (order : List Causes) (k p k' p' : ℕ) → FirstOf order k p → FirstOf order k' p' → (k ≡ k') × (p ≡ p')
first_of_same [] k p k' p' f g = absurd f
first_of_same (causes ∷ later) k p k' p' (inl f) (inl g) = first_same k p k' p' f g
first_of_same (causes ∷ later) k p k' p' (inl f) (inr g) = absurd (g.0 k p f.holds)
first_of_same (causes ∷ later) k p k' p' (inr f) (inl g) = absurd (f.0 k' p' g.holds)
first_of_same (causes ∷ later) k p k' p' (inr f) (inr g) = first_of_same later k p k' p' f.1 g.1

-- Where an order has a first cause, its causes are not all absent.
pub first_or_none : (order : List Causes) (k p : ℕ) → FirstOf order k p → NoneOf order → ⊥
first_or_none [] k p f none = f
first_or_none (causes ∷ later) k p (inl f) none = none.0 k p f.holds
first_or_none (causes ∷ later) k p (inr f) none = first_or_none later k p f.1 none.1

-- What was lent settles the refusal, and the verdict: of two that an order judges right, neither differs.
pub refusal_unique : (order : List Causes) (r r' : Refusal) → FirstOf order (fault_number r.0) r.1 → FirstOf order (fault_number r'.0) r'.1 → r ≡ r'
refusal_unique order r r' f g = let same = first_of_same order _ _ _ _ f g in one_refusal r r' same.0 same.1

pub judged_unique : (order : List Causes) (v w : Verdict) → Judged order v → Judged order w → v ≡ w
judged_unique order (Ok a) (Ok b) f g = refl
judged_unique order (Ok _) (Err r) f g = absurd (first_or_none order _ _ g f)
judged_unique order (Err r) (Ok _) f g = absurd (first_or_none order _ _ f g)
judged_unique order (Err r) (Err r') f g = ap Err (refusal_unique order r r' f g)

pub verdict_unique : {A : Type 0} (order : List Causes) (told : Said A) (w : Said (Unit {0})) → Judges order told → Judges order w → verdict_by told ≡ w
verdict_unique order (gives values) (gives u) f g = refl
verdict_unique order (gives values) (refuses k p) f g = absurd (first_or_none order k p g f)
verdict_unique order (refuses k p) (gives u) f g = absurd (first_or_none order k p f g)
verdict_unique order (refuses k p) (refuses k' p') f g = let same = first_of_same order k p k' p' f g in ap₂ refuses same.0 same.1

-- What a `?` hands on is the refusal that it met.
pub handed_on : {A : Type 0} {r : Refusal} (result : Answer A) → IsErrAnd result (λ (e : Refusal). e ≡ r) → result ≡ Err r
handed_on result and = let p = err_from_is_err_and result and in rw (p.1, p.2)
