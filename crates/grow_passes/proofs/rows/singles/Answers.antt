use mathlib.Core.Path.{◌≡◌}
use mathlib.Core.Bool.{cond}
use Prim.Native.Nat.{ℕ}
use native.Mathlib.Omega.{arith}
use lib.Dec.{ltb}
use lib.ListN.{get_or, set}
use Rattle.std.proofs.lemmas.Grind.{common_steps}
use Rattle.grow_passes.proofs.Passes.{single_holds}
use Rattle.grow_passes.proofs.rows.singles.Goals as goal

pub returns-after-depths-at-eq0 : goal.returns-after-depths-at-eq0
returns-after-depths-at-eq0 c =
    let pre = c.requires.tables in
    let class : (u : ℕ) → get_or (set c.loop-v.classes c.loop-v.v c.if-depths-at-eq0.classes) u 0 ≡ cond (ltb 0 (get_or c.args.depths.now u 0)) u 0 = grind (arith, common_steps) in
    record { single = single_holds pre.0 pre.3 (grind (arith, common_steps)) (grind (arith, common_steps)) class c.loop-v.invariant.parent }
