use native.Mathlib.Omega.{arith}
use lib.ListN.{length-take}
use Rattle.std.proofs.lemmas.Grind.{common_steps}
use Rattle.forest_entries.specs.InnerFlags.{if_flagged}
use Rattle.forest_entries.proofs.Taken.{kept_rows}
use Rattle.forest_entries.proofs.keep_flagged.Goals as goal

pub loop-top-preserved : goal.loop-top-preserved
unfolding if_flagged
loop-top-preserved c = record { done = grind (arith, common_steps); rest = grind (arith, common_steps) }

pub returns : goal.returns
returns c =
    let long = c.requires.enough in
    let size = length-take c.args.n c.args.tops.now in
    let same = c.loop-top.auto.top-items in
    let all = c.loop-top-test.false in
    record { kept = kept_rows _ _ _ _ long (omega arith) (λ k l. c.loop-top.invariant.done k (omega arith)) }
