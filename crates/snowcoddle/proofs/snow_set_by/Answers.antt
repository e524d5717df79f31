-- What the set call answers is laid out, and what holds by the scheme that was found holds by the one that is asked for.
use Rattle.terms.specs.Listed.{Listed}
use Rattle.terms.specs.declared.Scheme.{Scheme}
use Rattle.formula.specs.Lent.{formula_of}
use Rattle.formula_rules.specs.Rules.{read_by}
use Rattle.forest_tables.specs.Lent.{rows}
use Rattle.forest.specs.Causes.{list_order}
use Rattle.forest.specs.Answers.{MembersBy}
use Rattle.snowcoddle.proofs.Places.{small_list}
use Rattle.snowcoddle.proofs.Telling.{fits_filling, tell_filling_by}
use Rattle.snowcoddle.proofs.snow_set_by.Goals as goal

pub lay-requires : goal.lay-requires
lay-requires c =
    let a = c.args in
    let f = formula_of a.n a.prefix.now a.clauses.now in
    let r = rows a.classes.now a.parents.now a.counts.now in
    let asked = MembersBy c.scheme_in.result (read_by a.rule f) r a.x in
    let b = c.set_of-answer in
    record {
      fits = fits_filling (list_order a.rule f r a.x asked a.out.now) (Listed asked) a.out.now _ b.result
          (small_list a.rule f r a.x asked a.out.now) b.ensures.listed;
    }

pub returns : goal.returns
returns c =
    let a = c.args in
    let f = formula_of a.n a.prefix.now a.clauses.now in
    let r = rows a.classes.now a.parents.now a.counts.now in
    let asked = λ (scheme : Scheme). MembersBy scheme (read_by a.rule f) r a.x in
    let order = λ (scheme : Scheme). list_order a.rule f r a.x (asked scheme) a.out.now in
    let b = c.set_of-answer in
    record {
      told = tell_filling_by order (λ (scheme : Scheme). Listed (asked scheme)) a.out.now _ c.scheme_in.ensures.asked b.result
          c.lay.ensures.laid b.ensures.listed;
    }
