use native.Mathlib.Omega.{arith}
use Rattle.grow_passes.proofs.Passes.{settle_none, settle_one, settled}
use Rattle.grow_passes.proofs.rows.settle.Goals as goal

pub loop-v-init : goal.loop-v-init
loop-v-init c = settle_none c.requires.table c.requires.falling

pub loop-v-preserved : goal.loop-v-preserved
loop-v-preserved c = settle_one c.loop-v.invariant c.loop-v-test.true

pub returns-2 : goal.returns-2
returns-2 c = record { settled = settled (settle_one c.loop-v.invariant c.loop-v-test.true) (omega arith) }
