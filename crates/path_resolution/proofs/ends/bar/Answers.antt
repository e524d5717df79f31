use Prim.Native.Nat.{◌+◌}
use mathlib.Core.Path.{refl, subst}
use mathlib.Core.Bool.{not}
use native.Mathlib.Omega.{arith}
use lib.ListN.{set}
use Rattle.forest_tables.specs.InnerTabled.{tabled}
use Rattle.forest_tables.specs.InnerRows.{Tells}
use Rattle.forest_theory.specs.Reach.{Deeper}
use Rattle.path_resolution.proofs.Reaching.{BarredBefore, bar_more}
use Rattle.path_resolution.proofs.ends.bar.Goals as goal
use Rattle.path_resolution.proofs.ends.bar.Goals.{After-is_deeper-barred}

-- The two rows of v are written.
barred : (c : After-is_deeper-barred) → BarredBefore (tabled c.args.n c.args.levels.now c.args.universals.now) c.args.x.0
    (set (set c.loop-v.marks (c.loop-v.v + c.loop-v.v) (not c.is_deeper-barred.result)) (c.loop-v.v + c.loop-v.v + 1) (not c.is_deeper-barred.result)) (c.loop-v.v + 1)
barred c =
    let a = c.args in
    let r = c.is_deeper-barred.result in
    let X = tabled a.n a.levels.now a.universals.now in
    bar_more X a.x.0 c.loop-v.v (c.loop-v.v + c.loop-v.v) r c.loop-v.marks refl (omega arith)
    (subst (λ v. Tells r (Deeper X a.x.0 v)) c.new.ensures.holds c.is_deeper-barred.ensures.told) c.loop-v.invariant

pub loop-v-preserved : goal.loop-v-preserved
loop-v-preserved c = barred (goal.at.loop-v-preserved c).After-is_deeper-barred

pub returns-2 : goal.returns-2
returns-2 c = record { barred = λ l low high. barred (goal.at.returns-2 c).After-is_deeper-barred l low (omega arith) }
