use mathlib.Core.Path.{refl}
use mathlib.Core.List.{[]}
use native.Mathlib.Omega.{arith}
use Rattle.sets_subtrees.proofs.Linked.{walk_none, walk_within, walk_room, walk_more, walk_stored, walk_end}
use Rattle.sets_subtrees.proofs.write_run.Goals as goal

pub loop-v-init : goal.loop-v-init
loop-v-init c = let (list, run, fits) = c.requires.room in
    record { walking = ([], walk_none list run fits, refl); small = omega arith }

pub bounds-out-end : goal.bounds-out-end
bounds-out-end c = omega (arith, walk_room c.loop-v.invariant.walking.1 c.loop-v-test.true)

pub bounds-after-v : goal.bounds-after-v
bounds-after-v c = walk_within c.loop-v.invariant.walking.1 c.loop-v-test.true

pub loop-v-smaller : goal.loop-v-smaller
loop-v-smaller c = omega (arith, walk_room c.loop-v.invariant.walking.1 c.loop-v-test.true)

pub loop-v-preserved : goal.loop-v-preserved
loop-v-preserved c =
    let (done, walking, written) = c.loop-v.invariant.walking in
    let some = c.loop-v-test.true in
    record {
      walking = (_, walk_more walking some, walk_stored walking some c.args.out.now written);
      small = omega (arith, c.type_inv.after c.loop-v.v);
    }

pub returns : goal.returns
returns c =
    let (done, walking, written) = c.loop-v.invariant.walking in
    record { written = (done, walk_end walking c.loop-v-test.false, written) }
