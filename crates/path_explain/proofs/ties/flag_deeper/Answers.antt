use Prim.Native.Nat.{◌+◌}
use native.Mathlib.Omega.{arith}
use lib.ListN.{set, length-set}
use Rattle.std.proofs.lemmas.Grind.{common_steps}
use Rattle.terms.proofs.Common.{clash}
use Rattle.forest_theory.specs.Reach.{Deeper}
use Rattle.forest_tables.specs.InnerTabled.{tabled}
use Rattle.path_explain.proofs.Flagging.{Before, before_all, deeper_within}
use Rattle.path_explain.proofs.ties.flag_deeper.Goals as goal

pub loop-v-init : goal.loop-v-init
loop-v-init c =
    let a = c.args in
    record {
      tells = λ v l. (λ t. absurd (clash t (c.requires.room.2 v)), λ d. absurd (omega (arith, deeper_within a.n a.levels.now a.universals.now a.x.0 v d)));
      others = λ v _. c.requires.room.2 v;
    }

pub returns : goal.returns
returns c =
    let a = c.args in
    record {
      flagged = record {
        size = omega arith;
        tells = before_all c.loop-v.invariant c.loop-v-test.false (λ v d. (deeper_within a.n a.levels.now a.universals.now a.x.0 v d).1);
      };
    }

pub returns-2 : goal.returns-2
returns-2 c =
    let a = c.args in
    let flagged : Before (Deeper (tabled a.n a.levels.now a.universals.now) a.x.0) (set c.loop-v.flags c.loop-v.v c.is_deeper.result) (c.loop-v.v + 1) = grind (arith, common_steps) in
    record {
      flagged = record {
        size = omega (arith, length-set c.loop-v.flags c.loop-v.v c.is_deeper.result);
        tells = before_all flagged (omega arith) (λ v d. (deeper_within a.n a.levels.now a.universals.now a.x.0 v d).1);
      };
    }
