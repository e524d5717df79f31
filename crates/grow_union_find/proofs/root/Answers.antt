use Rattle.grow_union_find.proofs.Ways.{halve_none, halve_one}
use Rattle.grow_union_find.proofs.root.Goals as goal

pub loop-next-init : goal.loop-next-init
loop-next-init c = halve_none c.requires.falling

pub loop-next-preserved : goal.loop-next-preserved
loop-next-preserved c = halve_one c.loop-next.invariant c.loop-next-test.true
