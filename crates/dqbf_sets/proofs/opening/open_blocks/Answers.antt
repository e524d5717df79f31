use native.Mathlib.Omega.{arith}
use Rattle.dqbf_sets.proofs.Opened.{told_more, told_all, block_within}
use Rattle.dqbf_sets.proofs.opening.open_blocks.Goals as goal

pub loop-passed-preserved : goal.loop-passed-preserved
loop-passed-preserved c =
    let l = c.loop-passed in
    told_more l.rows (omega (arith, c.requires.room, l.auto.rows)) l.invariant c.loop-passed-test.true c.new-v.result.0 c.block_row.result
    c.new-v.ensures.holds c.block_row.ensures.told

pub returns : goal.returns
returns c =
    let a = c.args in
    let l = c.loop-passed in
    record { told = told_all l.rows (block_within a.n a.levels.now a.universals.now a.floor.0) l.invariant c.loop-passed-test.false }
