-- A tally beside tables: what it is that one agrees with them, how 18 is judged, and what a clause taken makes of it.
use Prim.Native.Nat.{ℕ, ◌+◌, ◌-◌, ◌<◌}
use mathlib.Core.Path.{◌≡◌, ◌∙◌}
use mathlib.Core.List.{[], ◌∷◌}
use mathlib.Core.Logic.{inl, inr, ⊎_elim, by_cases}
use native.Mathlib.Decide.{ℕ_discrete, dec_lt}
use native.Mathlib.Omega.{arith}
use Rattle.terms.specs.Refusals.{FirstOf, NoneOf}
use Rattle.terms.proofs.Verdicts.{at0_first, at0_none}
use Rattle.forest_theory.specs.Reach.{Variables}
use Rattle.terms.specs.declared.Tally.{Tally}
use Rattle.grow_refusals.specs.Admitted.{tally_clauses, WrongTally}
use Rattle.grow.specs.Grown.{Standing, class_names, existentials, TallyCause}
use Rattle.grow.specs.InnerTallies.{Fell}

-- A tally that is not wrong has few clauses, the class names, and the right sum.
module _ (t : Tally) {named exs : ℕ} (agrees : WrongTally t named exs → ⊥) where
  pub agrees_clauses : t.clauses < tally_clauses
  agrees_clauses = by_cases (dec_lt t.clauses tally_clauses) (λ l. l) (λ l. absurd (agrees (inl (omega arith))))

  pub agrees_classes : t.classes ≡ named
  agrees_classes = by_cases (ℕ_discrete t.classes named) (λ e. e) (λ d. absurd (agrees (inr (inl d))))

  pub agrees_sum : t.merges + t.classes ≡ exs
  agrees_sum = by_cases (ℕ_discrete (t.merges + t.classes) exs) (λ e. e) (λ d. absurd (agrees (inr (inr d))))

-- The numbers that a tally is held against are those of the tables.
module _ (X : Variables) (s : Standing) {named exs : ℕ} (is : (exs ≡ existentials X) × (named ≡ class_names X s)) where
  same_wrong : WrongTally s.tally named exs → WrongTally s.tally (class_names X s) (existentials X)
  same_wrong wrong = ⊎_elim (λ l. inl l) (λ rest. inr (⊎_elim (λ d. inl (λ e. d (omega (arith, e, is.1)))) (λ d. inr (λ e. d (omega (arith, e, is.0)))) rest)) wrong

  back_wrong : WrongTally s.tally (class_names X s) (existentials X) → WrongTally s.tally named exs
  back_wrong wrong = ⊎_elim (λ l. inl l) (λ rest. inr (⊎_elim (λ d. inl (λ e. d (e ∙ is.1))) (λ d. inr (λ e. d (e ∙ is.0))) rest)) wrong

  pub tally_refused : WrongTally s.tally named exs → FirstOf (TallyCause X s ∷ []) 18 0
  tally_refused wrong = inl (at0_first 18 (same_wrong wrong))

  pub tally_accepted : (WrongTally s.tally named exs → ⊥) → NoneOf (TallyCause X s ∷ [])
  tally_accepted agrees = (at0_none 18 (λ wrong. agrees (back_wrong wrong)), tt)

-- The tally with a clause taken that left so many class names.
pub fell : (X : Variables) (s s' : Standing) (left : ℕ) → s.tally.classes ≡ class_names X s → left ≡ class_names X s'
    → (s'.tally.clauses ≡ s.tally.clauses + 1) × (s'.tally.merges ≡ s.tally.merges + (s.tally.classes - left)) × (s'.tally.classes ≡ left) → Fell X s s'
fell X s s' left own is (clauses, merges, classes) = record { clauses = clauses; merges = omega arith; classes = classes ∙ is }
