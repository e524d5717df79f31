use native.Mathlib.Omega.{arith}
use Rattle.dqbf_lists.proofs.Placed.{place_mark, place_close, place_small, place_variable}
use Rattle.dqbf_lists.proofs.checking.place_blocks.Goals.{then-opens, else-opens+then-entry-eq0, else-opens+else-entry-eq0}
use Rattle.dqbf_lists.proofs.checking.place_blocks.Goals as goal

pub bounds-placed-entry : goal.bounds-placed-entry
bounds-placed-entry c =
    let i = c.loop-entry.invariant in
    omega (arith, place_small c.requires.sound.1 i c.loop-entry-test.true c.if-opens.false c.if-entry-eq0.false, i.naming.size)

pub loop-entry-preserved : goal.loop-entry-preserved
loop-entry-preserved c =
    let sound = c.requires.sound.1 in
    let i = c.loop-entry.invariant in
    let more = c.loop-entry-test.true in
    elim c.if-opens.branch [
      | then-opens w ↦ rw (w.opens-is, w.placed-is) (place_mark sound i more w.if-opens.true)
      | else-opens+then-entry-eq0 w ↦ rw (w.opens-is, w.placed-is) (place_close sound i more w.if-opens.false w.if-entry-eq0.true)
      | else-opens+else-entry-eq0 w ↦ rw (w.opens-is, w.placed-is) (place_variable sound i more w.if-opens.false w.if-entry-eq0.false)
    ]
