-- What a call puts into a lent table: where nothing in front of 14 is refused, the list or 14; and two such outcomes of one list are equal.
use Prim.Native.Nat.{ℕ, ◌≤◌, ◌<◌}
use mathlib.Core.Path.{◌≡◌, refl, sym, ap, ◌∙◌}
use mathlib.Core.List.{List, [], ◌∷◌, ◌++◌}
use mathlib.Core.Logic.{inl, inr, by_cases}
use native.Mathlib.Decide.{dec_lt}
use native.Mathlib.Omega.{arith}
use lib.ListN.{length}
use Rattle.std.specs.Prelude.{Ok, Err}
use Rattle.terms.specs.Answers.{Filling}
use Rattle.terms.specs.Overwritten.{overwritten}
use Rattle.terms.specs.Refusals.{Causes, At0, FirstOf, NoneOf}
use Rattle.terms.specs.Says.{Answer, fault_number}
use Rattle.terms.specs.declared.Fault.TheVariants.{TooLittleRoom}
use Rattle.terms.proofs.Faults.{one_refusal}
use Rattle.terms.proofs.Orders.{none_later, later_first}
use Rattle.demands.specs.Words.{Puts, with_room, no_room}

-- The order of such a call ends with 14.
module _ (front : List Causes) (L : List ℕ → Type 0) (before after : List ℕ) where
  abbrev last : List Causes
  last = At0 14 ((list : List ℕ) × L list × (length before < length list)) ∷ []

  pub puts : (answer : Answer ℕ) → NoneOf front → Filling (front ++ last) L before after answer → Puts L before after answer
  puts (Ok count) none (all, (list, is, size, left)) = with_room list is fits (ap Ok size) left
    where
      fits : length list ≤ length before
      fits = by_cases (dec_lt (length before) (length list)) (λ over. absurd ((none_later front last all).0 14 0 (refl, refl, (list, is, over)))) (λ l. omega arith)
  puts (Err refusal) none (first, same) = go (later_first front last (fault_number refusal.0) refusal.1 none first)
    where
      go : FirstOf last (fault_number refusal.0) refusal.1 → Puts L before after (Err refusal)
      go (inl f) = let (k, p, (list, is, over)) = f.holds in no_room list is over (ap Err (one_refusal refusal (record { 0 = TooLittleRoom; 1 = 0 }) k p)) same
      go (inr f) = absurd f.1

module _ {L M : List ℕ → Type 0} where
  -- the same list, by another name
  pub puts_as : {before after : List ℕ} {answer : Answer ℕ} → ((list : List ℕ) → L list → M list) → Puts L before after answer → Puts M before after answer
  puts_as also (with_room list is fits answer left) = with_room list (also list is) fits answer left
  puts_as also (no_room list is over answer left) = no_room list (also list is) over answer left

  -- Two outcomes are equal where both lists are one.
  pub puts_one : {before after after' : List ℕ} {answer answer' : Answer ℕ} → ((list other : List ℕ) → L list → M other → list ≡ other)
      → Puts L before after answer → Puts M before after' answer' → (answer ≡ answer') × (after ≡ after')
  puts_one {before} one (with_room a is _ q r) (with_room b is' _ q' r') =
      let same = one a b is is' in
      (q ∙ ap (λ (list : List ℕ). Ok (length list)) same ∙ sym q', r ∙ ap (λ (list : List ℕ). overwritten list before) same ∙ sym r')
  puts_one one (with_room a is fits _ _) (no_room b is' over _ _) = let size = ap length (one a b is is') in absurd (omega arith)
  puts_one one (no_room a is over _ _) (with_room b is' fits _ _) = let size = ap length (one a b is is') in absurd (omega arith)
  puts_one one (no_room _ _ _ q r) (no_room _ _ _ q' r') = (q ∙ sym q', r ∙ sym r')
