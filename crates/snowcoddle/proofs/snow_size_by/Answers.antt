-- What the size call answers is laid out, and what holds by the scheme that was found holds by the one that is asked for.
use Rattle.terms.specs.declared.Scheme.{Scheme}
use Rattle.formula.specs.Lent.{formula_of}
use Rattle.formula_rules.specs.Rules.{read_by}
use Rattle.forest_tables.specs.Lent.{rows}
use Rattle.forest.specs.Causes.{ask_order}
use Rattle.forest.specs.Answers.{SizeBy}
use Rattle.snowcoddle.proofs.Places.{small_ask}
use Rattle.snowcoddle.proofs.Telling.{fits_numbered, tell_numbered_by}
use Rattle.snowcoddle.proofs.snow_size_by.Goals as goal

pub lay-requires : goal.lay-requires
lay-requires c =
    let a = c.args in
    let f = formula_of a.n a.prefix.now a.clauses.now in
    let r = rows a.classes.now a.parents.now a.counts.now in
    let b = c.set_size-answer in
    record {
      fits = fits_numbered (ask_order a.rule f r a.x) (SizeBy c.scheme_in.result (read_by a.rule f) r a.x) b.result
          (small_ask a.rule f r a.x) b.ensures.sized;
    }

pub returns : goal.returns
returns c =
    let a = c.args in
    let f = formula_of a.n a.prefix.now a.clauses.now in
    let r = rows a.classes.now a.parents.now a.counts.now in
    let b = c.set_size-answer in
    record {
      told = tell_numbered_by (ask_order a.rule f r a.x) (λ (scheme : Scheme). SizeBy scheme (read_by a.rule f) r a.x)
          c.scheme_in.ensures.asked b.result c.lay.ensures.laid b.ensures.sized;
    }
