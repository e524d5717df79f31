use mathlib.Core.Logic.{inl}
use native.Mathlib.Omega.{arith}
use Rattle.terms.proofs.Verdicts.{handed_on}
use Rattle.file_layout.proofs.Walks.{next_past, shaped_none, shaped_record, shaped_fault, shaped_more, shaped_all}
use Rattle.file_layout.proofs.shape_verdict.Goals as goal

pub loop-at-init : goal.loop-at-init
loop-at-init c = shaped_none c.args.file.now

pub pass_record-requires : goal.pass_record-requires
pass_record-requires c = record { begins = (c.requires.short, shaped_record c.args.file.now c.loop-at.invariant c.loop-at-test.true) }

pub returns : goal.returns
returns c = record { judged = (shaped_all c.args.file.now c.loop-at.invariant c.loop-at-test.false, tt) }

pub returns-in_err-at : goal.returns-in_err-at
returns-in_err-at c =
    let wrong = c.in_err-at.ensures.passed in
    rw (handed_on c.from_residual.result c.from_residual.ensures.1)
    rw (wrong.0, wrong.1)
    record { judged = inl (shaped_fault c.args.file.now c.loop-at.invariant wrong.2) }

pub loop-at-smaller : goal.loop-at-smaller
loop-at-smaller c = omega (arith, c.loop-at-test.true, next_past c.args.file.now c.loop-at.at, c.in_ok-at.ensures.passed.0)

pub loop-at-preserved : goal.loop-at-preserved
loop-at-preserved c =
    let right = c.in_ok-at.ensures.passed in
    shaped_more c.args.file.now c.loop-at.invariant c.in_ok-at.at right.0 c.loop-at-test.true right.1
