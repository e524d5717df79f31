use mathlib.Core.Path.{refl}
use mathlib.Core.Logic.{inl}
use native.Mathlib.Omega.{arith}
use Rattle.forest_members.specs.declared.Asked.TheVariants.{Set}
use Rattle.forest_members.specs.InnerPicked.{pick}
use Rattle.forest_members.proofs.Picked.{picked_most}
use Rattle.sets_occurrences.proofs.Followed.{trace_none, trace_link, trace_all}
use Rattle.sets_sizes.proofs.Draining.{entered_zero, trace_either, drained_all, under_none}
use Rattle.sets_sizes.proofs.drain_along.Goals as goal

pub loop-at-init : goal.loop-at-init
loop-at-init c =
    let a = c.args in
    let (scheme, entered) = c.requires.entered.1 in
    record {
      tracing = trace_none c.requires.tied refl (omega (arith, c.type_inv.first a.x.0));
      sum = omega arith;
      off = entered_zero scheme a.n a.tops.now a.clauses.now a.x.0 a.flags.now entered;
    }

pub bounds-next-at : goal.bounds-next-at
bounds-next-at c = omega (arith, (trace_link c.loop-at.invariant.tracing c.loop-at-test.true).0, c.requires.tied.links)

pub overflow_add-total : goal.overflow_add-total
overflow_add-total c =
    let a = c.args in
    omega (arith, c.loop-at.invariant.sum, c.drain_after-total.ensures.summed, picked_most (pick Set a.n a.flags.now a.tops.now) a.n)

pub loop-at-smaller : goal.loop-at-smaller
loop-at-smaller c = omega (arith, (trace_link c.loop-at.invariant.tracing c.loop-at-test.true).1, c.unpack-row.ensures.both.0)

pub loop-at-preserved : goal.loop-at-preserved
loop-at-preserved c =
    let l = c.loop-at in
    let (low, high) = c.unpack-row.ensures.both in
    let (z, closes, drained) = c.drain_after-total.ensures.drained in
    let here = c.drain_after-total.ensures.summed in
    let sum = l.invariant.sum in
    let kept = l.auto.flags in
    record {
      tracing = trace_either l.invariant.tracing c.loop-at-test.true low high _ z closes (λ e l. drained.off e (omega arith));
      sum = omega arith;
      off = (drained.off 0 (let long = c.requires.entered.0 in omega arith)).1 (inl l.invariant.off);
    }

pub returns : goal.returns
returns c =
    let a = c.args in
    let l = c.loop-at in
    let (long, (scheme, entered)) = c.requires.entered in
    let all = drained_all scheme a.n a.tops.now a.clauses.now a.x.0 a.flags.now l.flags long l.auto.flags entered
    (trace_all l.invariant.tracing c.requires.tied refl c.loop-at-test.false) in
    let none = under_none a.n a.tops.now l.flags all in
    let sum = l.invariant.sum in
    record { summed = omega arith }
