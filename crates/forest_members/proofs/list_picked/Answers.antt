-- No more are picked than there are numbers, so that the count fits.
use native.Mathlib.Omega.{arith}
use Rattle.forest_members.specs.InnerPicked.{pick}
use Rattle.forest_members.proofs.Picked.{picked_most}
use Rattle.forest_members.proofs.list_picked.Goals as goal

pub overflow_cast-result : goal.overflow_cast-result
overflow_cast-result c =
    let a = c.args in
    let most = picked_most (pick a.asked a.n a.flags.now a.tops.now) a.n in
    let count = c.write_picked-end.ensures.behind in
    omega arith
