-- Refusal 20 comes first; where it has no cause, the sum of the words decides over 21.
use Rattle.std.specs.Prelude.{Err}
use Rattle.terms.specs.Says.{gives, refuses, Verdict, accepted}
use mathlib.Core.Path.{sym, ◌∙◌}
use mathlib.Core.List.{List, [], ◌∷◌}
use mathlib.Core.Logic.{inl}
use Prim.Native.Nat.{ℕ}
use Rattle.terms.specs.Refusals.{Causes, At0, Judged}
use Rattle.terms.proofs.Orders.{carry_judged}
use Rattle.file_format.specs.InnerPlaces.{StepCause}
use Rattle.file_format.proofs.Passing.{steps_orders}
use Rattle.terms.proofs.Verdicts.{at0_first, at0_none, first_of_more, judges_later, handed_on}
use Rattle.file_format.specs.Layout.{SumsToZero}
use Rattle.file_format.specs.Causes.{OrderCause}
use Rattle.file_layout.proofs.order_and_sum.Goals as goal

abbrev order : List ℕ → List Causes
order file = OrderCause file ∷ []

abbrev sum : List ℕ → List Causes
sum file = At0 21 (SumsToZero file → ⊥) ∷ []

-- what is judged by the kind before is judged by the kinds passed
kinds-judged : (file : List ℕ) (v : Verdict) → Judged (StepCause file ∷ []) v → Judged (order file) v
kinds-judged file = carry_judged (StepCause file ∷ []) (order file) (steps_orders file)

pub returns-in_err-order_verdict : goal.returns-in_err-order_verdict
returns-in_err-order_verdict c =
    let file = c.args.file.now in
    rw (handed_on c.from_residual.result c.from_residual.ensures.1)
    record { judged = first_of_more (order file) (sum file) _ _ (kinds-judged file (Err c.in_err-order_verdict.field-0.0) c.in_err-order_verdict.ensures.judged) }

pub returns-then-sum_words-ne0 : goal.returns-then-sum_words-ne0
returns-then-sum_words-ne0 c =
    let file = c.args.file.now in
    record {
      judged = judges_later {A = Unit {0}} (order file) (sum file) (refuses 21 0) (kinds-judged file accepted c.in_ok-order_verdict.ensures.judged)
          (inl (at0_first 21 (λ zero. c.if-sum_words-ne0.true (c.sum_words.ensures.summed ∙ zero))));
    }

pub returns : goal.returns
returns c =
    let file = c.args.file.now in
    record {
      judged = judges_later {A = Unit {0}} (order file) (sum file) (gives tt) (kinds-judged file accepted c.in_ok-order_verdict.ensures.judged)
          (at0_none 21 (λ no. no (sym c.sum_words.ensures.summed ∙ c.if-sum_words-ne0.false)), tt);
    }
