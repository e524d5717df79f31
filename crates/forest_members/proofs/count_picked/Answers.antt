use native.Mathlib.Omega.{arith}
use Rattle.forest_members.specs.InnerPicked.{pick}
use Rattle.forest_members.proofs.Picked.{picked_most, count_none, count_more, count_same}
use Rattle.forest_members.proofs.count_picked.Goals as goal
use Rattle.forest_members.proofs.count_picked.Goals.{then-picks, else-picks}

pub loop-passed-init : goal.loop-passed-init
loop-passed-init c =
    let a = c.args in
    let (low, none) = c.requires.skipped in
    count_none a.n (pick a.asked a.n a.flags.now a.tops.now) 0 a.from low none

pub overflow_add-count : goal.overflow_add-count
overflow_add-count c =
    let a = c.args in
    let counted = c.loop-passed.invariant.counted in
    omega (arith, picked_most (pick a.asked a.n a.flags.now a.tops.now) c.loop-passed.passed)

pub loop-passed-preserved : goal.loop-passed-preserved
loop-passed-preserved c =
    let counted = c.loop-passed.invariant in
    let more = c.loop-passed-test.true in
    let is = c.new.ensures.holds in
    let told = c.picks.ensures.told in
    elim c.if-picks.branch [
      | then-picks w ↦ rw w.count-is (count_more counted more is told w.if-picks.true)
      | else-picks w ↦ rw w.count-is (count_same counted more is told w.if-picks.false)
    ]
