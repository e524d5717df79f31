-- Tables that are too short come first, then the first bad row, and once no row is bad the tables are well formed (formed), and the counts tell.
use mathlib.Core.Logic.{inl}
use Rattle.forest_tables.specs.InnerCounting.{FormedBy}
use Rattle.forest_tables.proofs.Formed.{forest_bad, forest_miscounted, forest_fine}
use Rattle.forest_tables.proofs.Agreeing.{bad_rows, fine_rows}
use Rattle.forest_tables.proofs.checking.check_forest.Goals as goal
use Rattle.forest_tables.proofs.checking.check_forest.Goals.{In_default}

-- Past the first test of rows they are well formed.
formed : (c : In_default) → FormedBy c.args.n c.args.prefix.now c.args.classes.now c.args.parents.now
formed c =
    let a = c.args in
    let (sound, table) = c.requires.levelled in
    fine_rows sound table a.classes.now a.parents.now c.in_default.ensures.first

pub returns-in-Some : goal.returns-in-Some
returns-in-Some c =
    let a = c.args in
    let (sound, table) = c.requires.levelled in
    let (some, first) = c.in-Some.ensures.first in
    record {
      judged = inl (forest_bad c.if-classes-size.false c.if-parents-size.false c.if-counts-size.false c.in-Some.bad.0 some
          (bad_rows sound table a.classes.now a.parents.now first));
    }

pub first_miscounted-requires : goal.first_miscounted-requires
first_miscounted-requires c = record { sound = c.requires.levelled.0; formed = formed (goal.at.first_miscounted-requires c).In_default }

pub returns-in-Some-first_miscounted : goal.returns-in-Some-first_miscounted
returns-in-Some-first_miscounted c =
    let (some, first) = c.in-Some-first_miscounted.ensures.first in
    record {
      judged = inl (forest_miscounted c.if-classes-size.false c.if-parents-size.false c.if-counts-size.false
          (formed (goal.at.returns-in-Some-first_miscounted c).In_default) c.in-Some-first_miscounted.wrong.0 some first);
    }

pub returns : goal.returns
returns c =
    record {
      judged = (
        forest_fine c.if-classes-size.false c.if-parents-size.false c.if-counts-size.false (formed (goal.at.returns c).In_default)
            c.in_default-first_miscounted.ensures.first,
        tt,
      );
    }
