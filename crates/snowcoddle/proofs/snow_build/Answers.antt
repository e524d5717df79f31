-- The tally is taken from its cells, and what build answers and leaves is laid out.
use Rattle.formula.specs.Lent.{formula_of}
use Rattle.forest_tables.specs.Lent.{rows}
use Rattle.snowcoddle.proofs.Rewritten.{fits_built, tell_built}
use Rattle.snowcoddle.proofs.snow_build.Goals as goal

pub lay_built-requires : goal.lay_built-requires
lay_built-requires c =
    let a = c.args in
    let b = c.build-told in
    record { fits = fits_built (formula_of a.n a.prefix.now a.clauses.now) b.result.answer b.ensures.built }

pub returns : goal.returns
returns c =
    let a = c.args in
    let b = c.build-told in
    record {
      told = tell_built (rows a.classes.now a.parents.now a.counts.now) (rows b.new.classes b.new.parents b.new.counts)
          a.tally.now a.rule (formula_of a.n a.prefix.now a.clauses.now) b.result.tally b.result.answer c.tally_in-lent.ensures.held
          c.lay_built.ensures.laid b.ensures.built;
    }
