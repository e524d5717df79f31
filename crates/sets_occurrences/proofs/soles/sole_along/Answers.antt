use mathlib.Core.Path.{refl, sym, ◌∙◌}
use mathlib.Core.Logic.{inr, ⊎_elim}
use native.Mathlib.Omega.{arith}
use Rattle.sets_occurrences.proofs.Followed.{trace_none, trace_link, trace_clause, trace_more, trace_past, trace_all}
use Rattle.sets_occurrences.proofs.soles.sole_along.Goals as goal

pub loop-at-init : goal.loop-at-init
loop-at-init c = trace_none c.requires.tied refl (omega (arith, c.type_inv.first c.args.x.0))

pub bounds-next-entry : goal.bounds-next-entry
bounds-next-entry c = omega (arith, (trace_link c.loop-at.invariant c.loop-at-test.true).0, c.requires.tied.links)

pub loop-at-smaller-then-has_sign : goal.loop-at-smaller-then-has_sign
loop-at-smaller-then-has_sign c = omega (arith, (trace_link c.loop-at.invariant c.loop-at-test.true).1, c.unpack-row.ensures.both.0)

-- an entry with one of the signs, whose clause has no other top
pub loop-at-preserved-then-has_sign : goal.loop-at-preserved-then-has_sign
loop-at-preserved-then-has_sign c =
    let l = c.loop-at in
    let a = c.args in
    let some = c.loop-at-test.true in
    let side = c.side_of-side in
    let (low, high) = c.unpack-row.ensures.both in
    let has = sym c.has_sign.ensures.told ∙ c.if-has_sign.true in
    let (z, closes) = trace_clause l.invariant some high in
    let told = c.in_ok-sole.ensures.sole z closes in
    trace_more l.invariant some c.literal_at.ensures.read side.result side.ensures.sided low high _ has z closes (λ e _. told e)

pub loop-at-smaller : goal.loop-at-smaller
loop-at-smaller c = omega (arith, (trace_link c.loop-at.invariant c.loop-at-test.true).1, c.unpack-row.ensures.both.0)

-- an entry with none of them
pub loop-at-preserved : goal.loop-at-preserved
loop-at-preserved c =
    let side = c.side_of-side in
    let (low, high) = c.unpack-row.ensures.both in
    let not = sym c.has_sign.ensures.told ∙ c.if-has_sign.false in
    trace_past c.loop-at.invariant c.loop-at-test.true c.literal_at.ensures.read side.result side.ensures.sided low high not

pub returns : goal.returns
returns c =
    let tied = c.requires in
    record {
      sole = λ e. let all = trace_all c.loop-at.invariant tied.tied refl c.loop-at-test.false e tt in
          (λ t. ⊎_elim (λ o. absurd o) (λ v. v) (all.0 t), λ v. all.1 (inr v));
    }
