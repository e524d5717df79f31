use mathlib.Core.Path.{◌≡◌, sym, ap, ◌∙◌}
use native.Mathlib.Omega.{arith}
use lib.ListN.{get_or}
use Rattle.forest_theory.specs.Tables.{row}
use Rattle.forest_climb.proofs.Climbing.{climb_stops, climb_goes}
use Rattle.forest_climb.proofs.+climb.Goals as goal

-- no parent
pub returns-then-parent-eq0 : goal.returns-then-parent-eq0
returns-then-parent-eq0 t c =
    let a = c.args in
    record {
      climbed = climb_stops a.n a.levels.now a.parents.now a.floor.0 a.class.0 a.rises c.requires.falling.1
          (λ some. absurd (some (sym c.row_of-parent.ensures.read ∙ c.if-parent-eq0.true)));
    }

-- a parent that is not deeper than the floor
pub returns-then-next-floor : goal.returns-then-next-floor
returns-then-next-floor t c =
    let a = c.args in
    let levels = a.levels.now in
    let read : get_or levels (row a.n a.parents.now a.class.0) 0 ≡ c.level_at-next.result.0 =
    ap (λ d. get_or levels d 0) (sym c.row_of-parent.ensures.read) ∙ sym c.level_at-next.ensures.read in
    let low = c.if-next-floor.true in
    record { climbed = climb_stops a.n levels a.parents.now a.floor.0 a.class.0 a.rises c.requires.falling.1 (λ some. omega arith) }

pub climb-requires : goal.climb-requires
climb-requires t c =
    let a = c.args in
    let (falling, deep, small) = c.requires.falling in
    let falls-here = falling a.class.0 (λ z. c.if-parent-eq0.false (c.row_of-parent.ensures.read ∙ z)) in
    let levels = a.levels.now in
    let same : get_or levels c.row_of-parent.result.0 0 ≡ get_or levels (row a.n a.parents.now a.class.0) 0 =
    ap (λ d. get_or levels d 0) c.row_of-parent.ensures.read in
    let level = c.level_at-next.ensures.read in
    let over = c.if-next-floor.false in
    let t-is = c.decreases in
    (omega arith, (falling, omega arith, omega arith))

pub returns : goal.returns
returns t c =
    let a = c.args in
    record {
      climbed = climb_goes a.n a.levels.now a.parents.now a.floor.0 a.class.0 a.rises c.row_of-parent.result.0
          c.row_of-parent.ensures.read c.if-parent-eq0.false c.climb.ensures.climbed;
    }
