use Prim.Native.Nat.{◌<◌}
use mathlib.Core.Path.{sym, ap}
use native.Mathlib.Omega.{arith}
use lib.ListN.{length}
use lib.Seq.{sets}
use Rattle.forest_members.specs.InnerPicked.{pick}
use Rattle.forest_members.proofs.Picked.{picked_none, count_none, count_more, count_same, count_room, write_more, write_same}
use Rattle.forest_members.proofs.write_picked.Goals as goal
use Rattle.forest_members.proofs.write_picked.Goals.{Then-picks, then-picks, else-picks}

-- Where a number is picked there is a row for it, since all that are picked fit.
room : (c : Then-picks) → c.loop-passed.end < length c.args.out.now
room c =
    count_room c.loop-passed.invariant.counted c.loop-passed-test.true c.new.ensures.holds c.picks.ensures.told
    (length c.args.out.now) c.if-picks.true c.requires.room

pub loop-passed-init : goal.loop-passed-init
loop-passed-init c =
    let a = c.args in
    let f = pick a.asked a.n a.flags.now a.tops.now in
    let (low, none) = c.requires.skipped in
    record { counted = count_none a.n f a.at a.from low none; written = sym (ap (sets a.out.now a.at) (picked_none f a.from none)) }

pub offset_bounds-out-end : goal.offset_bounds-out-end
offset_bounds-out-end c = omega (arith, room (goal.at.offset_bounds-out-end c).Then-picks)

pub bounds-out-end : goal.bounds-out-end
bounds-out-end c = omega (arith, room (goal.at.bounds-out-end c).Then-picks, c.loop-passed.auto.out)

pub overflow_add-end : goal.overflow_add-end
overflow_add-end c = omega (arith, room (goal.at.overflow_add-end c).Then-picks)

pub loop-passed-preserved : goal.loop-passed-preserved
loop-passed-preserved c =
    let out = c.args.out.now in
    let counted = c.loop-passed.invariant.counted in
    let written = c.loop-passed.invariant.written in
    let more = c.loop-passed-test.true in
    let is = c.new.ensures.holds in
    let told = c.picks.ensures.told in
    elim c.if-picks.branch [
      | then-picks w ↦ record {
        counted = rw w.end-is (count_more counted more is told w.if-picks.true);
        written = rw w.out-is (write_more counted more is told out written w.if-picks.true);
      }
      | else-picks w ↦ record {
        counted = rw w.end-is (count_same counted more is told w.if-picks.false);
        written = rw w.out-is (write_same counted more is told out written w.if-picks.false);
      }
    ]
