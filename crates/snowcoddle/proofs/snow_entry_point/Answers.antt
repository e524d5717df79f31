-- What the entry point call answers is laid out.
use Rattle.std.proofs.Common.{[]}
use Rattle.formula.specs.Lent.{formula_of}
use Rattle.formula_rules.specs.Rules.{read_by}
use Rattle.forest_tables.specs.Lent.{rows}
use Rattle.forest.specs.Causes.{entry_order}
use Rattle.forest.specs.Answers.{Entry}
use Rattle.snowcoddle.proofs.Places.{small_entry}
use Rattle.snowcoddle.proofs.Telling.{fits_entry, tell_entry}
use Rattle.snowcoddle.proofs.snow_entry_point.Goals as goal

pub lay_entry-requires : goal.lay_entry-requires
lay_entry-requires c =
    let a = c.args in
    let f = formula_of a.n a.prefix.now [] in
    let r = rows a.classes.now a.parents.now a.counts.now in
    let b = c.entry_point-answer in
    record {
      fits = fits_entry (entry_order a.rule f r a.x a.y) (Entry (read_by a.rule f) r a.x a.y) b.result
          (small_entry a.rule f r a.x a.y) b.ensures.answer;
    }

pub returns : goal.returns
returns c =
    let a = c.args in
    let f = formula_of a.n a.prefix.now [] in
    let r = rows a.classes.now a.parents.now a.counts.now in
    let b = c.entry_point-answer in
    record {
      told = tell_entry (entry_order a.rule f r a.x a.y) (Entry (read_by a.rule f) r a.x a.y) b.result
          c.lay_entry.ensures.laid b.ensures.answer;
    }
