-- No more are picked than there are numbers; where there is room for less they are counted.
use native.Mathlib.Omega.{arith}
use Rattle.forest_members.specs.InnerPicked.{pick}
use Rattle.forest_members.proofs.Picked.{picked_most}
use Rattle.forest_members.proofs.has_room.Goals as goal

pub returns-then-n-room : goal.returns-then-n-room
returns-then-n-room c =
    let a = c.args in
    let most = picked_most (pick a.asked a.n a.flags.now a.tops.now) a.n in
    let l = c.if-n-room.true in
    record { told = omega arith }

pub returns-then-room-count : goal.returns-then-room-count
returns-then-room-count c =
    record {
      told = λ fit. let count = c.count_picked-count.ensures in
          let l = c.if-room-count.true in
          omega arith;
    }

pub returns : goal.returns
returns c =
    let count = c.count_picked-count.ensures in
    let l = c.if-room-count.false in
    record { told = omega arith }
