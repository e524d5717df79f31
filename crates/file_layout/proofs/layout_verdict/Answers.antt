-- One order behind the other: the length of the file, then what is wrong with a record, then the order of the kinds and the sum.
use Prim.Native.Nat.{ℕ}
use Rattle.std.specs.Prelude.{Err}
use Rattle.terms.specs.Says.{said}
use mathlib.Core.List.{List, [], ◌∷◌}
use mathlib.Core.Logic.{inl}
use Rattle.terms.specs.Refusals.{Causes, At0}
use Rattle.terms.proofs.Verdicts.{at0_first, first_of_more, judges_later, handed_on}
use Rattle.file_format.specs.Layout.{SumsToZero}
use Rattle.file_format.specs.Causes.{RecordCause, OrderCause}
use Rattle.file_layout.proofs.Laying.{size_then}
use Rattle.file_layout.proofs.layout_verdict.Goals as goal

abbrev shape : List ℕ → List Causes
shape file = RecordCause file ∷ []

abbrev order-sum : List ℕ → List Causes
order-sum file = OrderCause file ∷ At0 21 (SumsToZero file → ⊥) ∷ []

pub returns-then-file-gt-FILE_BYTES : goal.returns-then-file-gt-FILE_BYTES
returns-then-file-gt-FILE_BYTES c = record { judged = inl (at0_first 19 c.if-file-gt-FILE_BYTES.true) }

pub order_and_sum-requires : goal.order_and_sum-requires
order_and_sum-requires c = record { whole = (c.if-file-gt-FILE_BYTES.false, c.in_ok-shape_verdict.ensures.judged.0) }

pub returns-in_err-shape_verdict : goal.returns-in_err-shape_verdict
returns-in_err-shape_verdict c =
    let file = c.args.file.now in
    rw (handed_on c.from_residual.result c.from_residual.ensures.1)
    record {
      judged = size_then file c.if-file-gt-FILE_BYTES.false (Err c.in_err-shape_verdict.field-0.0)
          (first_of_more (shape file) (order-sum file) _ _ c.in_err-shape_verdict.ensures.judged);
    }

pub returns : goal.returns
returns c =
    let file = c.args.file.now in
    let v = c.order_and_sum.result in
    record {
      judged = size_then file c.if-file-gt-FILE_BYTES.false v
          (judges_later (shape file) (order-sum file) (said v) c.in_ok-shape_verdict.ensures.judged c.order_and_sum.ensures.judged);
    }
