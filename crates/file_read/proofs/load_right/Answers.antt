-- Either a table is too short, or all are filled with what the file has.
use Rattle.std.proofs.Common.{refl}
use mathlib.Core.Logic.{inl}
use Rattle.terms.proofs.Verdicts.{at0_first}
use Rattle.forest_tables.specs.Lent.{rows}
use Rattle.file_format.specs.Places.{formula_held}
use Rattle.file_format.specs.Causes.{lent_tables}
use Rattle.file_read.proofs.Judging.{no_room, loads_filled}
use Rattle.file_read.proofs.load_right.Goals as goal

pub returns-then-not-has_room : goal.returns-then-not-has_room
returns-then-not-has_room c =
    let a = c.args in
    let lent = lent_tables a.prefix.now a.clauses.now (rows a.classes.now a.parents.now a.counts.now) in
    record { loaded = λ read right. (inl (at0_first 14 (no_room (formula_held a.file.now) lent c.if-not-has_room.ensures.told)), refl) }

pub fill_lent-requires : goal.fill_lent-requires
fill_lent-requires c = record { room = (c.requires.laid, c.if-not-has_room.ensures.told) }

pub returns : goal.returns
returns c =
    let a = c.args in
    let lent = lent_tables a.prefix.now a.clauses.now (rows a.classes.now a.parents.now a.counts.now) in
    let new = c.fill_lent.new in
    let left = lent_tables new.prefix new.clauses (rows new.classes new.parents new.counts) in
    record {
      loaded = loads_filled a.file.now lent left c.fill_lent.result c.if-not-has_room.ensures.told c.fill_lent.ensures.stored c.fill_lent.ensures.said;
    }
