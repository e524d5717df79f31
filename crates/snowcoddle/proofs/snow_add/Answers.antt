-- The tally is taken from its cells, and what add answers and leaves is laid out.
use Rattle.forest_tables.specs.Lent.{rows}
use Rattle.snowcoddle.proofs.Rewritten.{fits_added, tell_added}
use Rattle.snowcoddle.proofs.snow_add.Goals as goal

pub lay_added-requires : goal.lay_added-requires
lay_added-requires c = record { fits = fits_added c.args.prefix.now c.add-told.result.answer c.add-told.ensures.added }

pub returns : goal.returns
returns c =
    let a = c.args in
    let b = c.add-told in
    record {
      told = tell_added (rows a.classes.now a.parents.now a.counts.now) (rows b.new.classes b.new.parents b.new.counts)
          a.tally.now a.rule a.n a.prefix.now a.clause.now b.result.tally b.result.answer c.tally_in-lent.ensures.held
          c.lay_added.ensures.laid b.ensures.added;
    }
