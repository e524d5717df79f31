use mathlib.Core.Logic.{inl}
use native.Mathlib.Omega.{arith}
use Rattle.forest_members.specs.declared.Asked.TheVariants.{Set}
use Rattle.forest_members.specs.InnerPicked.{pick}
use Rattle.forest_members.proofs.Picked.{picked_most}
use Rattle.forest_entries.proofs.Flags.{unclosed_none, unclosed_more, unclosed_zero, unclosed_end, has_none, has_next}
use Rattle.sets_sizes.proofs.Draining.{drained_none, drained_next, drained_sum, one_off}
use Rattle.sets_sizes.proofs.drain_after.Goals as goal

pub loop-i-init : goal.loop-i-init
loop-i-init c =
    let a = c.args in
    let none = has_none a.clauses.now a.start in
    record {
      unclosed = unclosed_none a.clauses.now a.start;
      drained = drained_none a.flags.now (λ e t. none t.for t.holds);
      sum = omega arith;
      off = c.requires.weighed.3;
    }

pub returns-then-variable-eq0 : goal.returns-then-variable-eq0
returns-then-variable-eq0 c =
    let l = c.loop-i.invariant in
    record {
      drained = (c.loop-i.i, unclosed_zero l.unclosed c.variable_at-variable.ensures.read c.if-variable-eq0.true, l.drained);
      summed = l.sum;
    }

pub returns : goal.returns
returns c = let l = c.loop-i.invariant in
    record { drained = (c.loop-i.i, unclosed_end l.unclosed c.loop-i-test.false, l.drained); summed = l.sum }

pub overflow_add-total : goal.overflow_add-total
overflow_add-total c =
    let a = c.args in
    let l = c.loop-i.invariant in
    let (few, within, weighed, _) = c.requires.weighed in
    let row = c.row_of-top.ensures.read in
    let low = within c.variable_at-variable.result.0 in
    let here = drained_sum a.n a.tops.now a.lead.now few weighed (omega arith) l.off c.drain-total.ensures.drained in
    let sum = l.sum in
    let most = picked_most (pick Set a.n a.flags.now a.tops.now) a.n in
    omega arith

pub loop-i-preserved : goal.loop-i-preserved
loop-i-preserved c =
    let a = c.args in
    let l = c.loop-i.invariant in
    let (few, within, weighed, zero) = c.requires.weighed in
    let row = c.row_of-top.ensures.read in
    let low = within c.variable_at-variable.result.0 in
    let one = c.drain-total.ensures.drained in
    let here = drained_sum a.n a.tops.now a.lead.now few weighed (omega arith) l.off one in
    let read = c.variable_at-variable.ensures.read in
    let more = has_next a.clauses.now a.start c.loop-i.i c.variable_at-variable.result.0 l.unclosed.from read in
    let sum = l.sum in
    record {
      unclosed = unclosed_more l.unclosed c.loop-i-test.true read c.if-variable-eq0.false;
      drained = drained_next more row zero l.drained one;
      sum = omega arith;
      off = (one_off one 0).1 (inl l.off);
    }
