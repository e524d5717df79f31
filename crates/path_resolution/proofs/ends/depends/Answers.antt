-- Where y is not deeper nothing pairs; else the four rows of y tell whether its opposite literals stand in the two tables (pairs_told).
use Prim.Native.Nat.{◌+◌}
use mathlib.Core.Path.{refl}
use Rattle.forest_tables.specs.InnerTabled.{tabled}
use Rattle.forest_tables.proofs.Readings.{told, told_not, told_both}
use Rattle.forest_theory.specs.Reach.{Deeper}
use Rattle.path_resolution.specs.InnerEnds.{Pairs}
use Rattle.path_resolution.proofs.Reaching.{deeper_some, pairs_told}
use Rattle.path_resolution.proofs.ends.depends.Goals as goal

pub returns-then-not-is_deeper : goal.returns-then-not-is_deeper
returns-then-not-is_deeper c =
    record {
      told = λ p. let deeper = c.is_deeper in
          told_not deeper.result c.if-not-is_deeper.true deeper.ensures.told p.0;
    }

pub returns : goal.returns
returns c =
    let deeper = c.is_deeper in
    let a = c.args in
    let Deep = Deeper (tabled a.n a.levels.now a.universals.now) a.x.0 a.y.0 in
    let deep = told {P = Deep} deeper.result c.if-not-is_deeper.false deeper.ensures.told in
    let some = deeper_some a.n a.levels.now a.universals.now a.x.0 a.y.0 deep in
    let r = c.crossed.result in
    record {
      told = told_both {P = Pairs a.ends.now a.others.now a.y.0} r (λ pairs. (deep, pairs)) (λ both. both.1)
          (pairs_told a.ends.now a.others.now a.y.0 (a.y.0 + a.y.0) r some refl c.crossed.ensures.crossed);
    }
