use mathlib.Core.Path.{sym, ap, ◌∙◌, subst}
use mathlib.Core.Logic.{inl}
use native.Mathlib.Omega.{arith}
use Rattle.file_format.specs.InnerPlaces.{may_follow}
use Rattle.file_layout.proofs.Walks.{next_past, Ordered, ordered_none, ordered_fault, ordered_missing, ordered_all, ordered_more}
use Rattle.file_layout.proofs.order_verdict.Goals as goal

pub loop-at-init : goal.loop-at-init
loop-at-init c = ordered_none c.args.file.now

pub kind_at-kind-requires : goal.kind_at-kind-requires
kind_at-kind-requires c = record { near = omega (arith, c.requires.whole.0, c.loop-at-test.true) }

pub returns-then-not-may_follow : goal.returns-then-not-may_follow
returns-then-not-may_follow c =
    let l = c.loop-at in
    let never = sym c.may_follow.ensures.told ∙ c.if-not-may_follow.true in
    record {
      judged = inl (ordered_fault c.args.file.now l.invariant c.loop-at-test.true
          (ap (may_follow l.before) (sym c.kind_at-kind.ensures.read) ∙ never));
    }

pub next_at-at-requires : goal.next_at-at-requires
next_at-at-requires c = record { near = omega (arith, c.requires.whole.0, c.loop-at-test.true) }

pub loop-at-smaller : goal.loop-at-smaller
loop-at-smaller c = omega (arith, c.loop-at-test.true, next_past c.args.file.now c.loop-at.at, c.next_at-at.ensures.found)

pub loop-at-preserved : goal.loop-at-preserved
loop-at-preserved c =
    let file = c.args.file.now in
    let l = c.loop-at in
    let kind = c.kind_at-kind.ensures in
    let may = sym c.may_follow.ensures.told ∙ c.if-not-may_follow.false in
    subst (Ordered file c.next_at-at.result) (sym kind.read)
    (ordered_more file l.invariant c.requires.whole.1 c.next_at-at.result c.next_at-at.ensures.found c.loop-at-test.true
    (ap (may_follow l.before) (sym kind.read) ∙ may))

pub returns-then-before-ne-CLOSING : goal.returns-then-before-ne-CLOSING
returns-then-before-ne-CLOSING c =
    record { judged = inl (ordered_missing c.args.file.now c.loop-at.invariant c.loop-at-test.false c.if-before-ne-CLOSING.true) }

pub returns : goal.returns
returns c = record { judged = (ordered_all c.args.file.now c.loop-at.invariant c.loop-at-test.false c.if-before-ne-CLOSING.false, tt) }
