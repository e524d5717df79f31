use Rattle.grow_union_find.proofs.Steps.{merge_none, merge_step, merge_all}
use Rattle.grow_union_find.proofs.merge.Goals as goal

pub loop-left-init : goal.loop-left-init
loop-left-init c = merge_none c.requires.rows c.requires.pair

pub loop-left-preserved : goal.loop-left-preserved
loop-left-preserved c = merge_step c.loop-left.invariant c.advance-left.ensures.stepped

pub returns : goal.returns
returns c = record { joined = merge_all c.loop-left.invariant c.loop-left-test.false }
