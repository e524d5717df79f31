use native.Mathlib.Omega.{arith}
use Rattle.dqbf_lists.specs.Inner.{none_passed, one_passed}
use Rattle.dqbf_lists.proofs.Checked.{in_row}
use Rattle.dqbf_lists.proofs.checking.pass_universals.Goals as goal

pub loop-i-init : goal.loop-i-init
loop-i-init c = none_passed

pub bounds-last-entry : goal.bounds-last-entry
bounds-last-entry c =
    let low = in_row c.args.n c.args.universals.now _ c.if-not-may_follow.ensures.told.0 in
    omega (arith, low, c.requires.few, c.requires.rows, c.loop-i.auto.last)

pub loop-i-preserved : goal.loop-i-preserved
loop-i-preserved c = one_passed c.loop-i.i c.loop-i.invariant c.loop-i-test.true c.if-not-may_follow.ensures.told
