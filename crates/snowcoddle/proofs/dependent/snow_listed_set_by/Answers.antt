-- What the set call answers is laid out, and what holds by the scheme that was found holds by the one that is asked for.
use Rattle.terms.specs.Listed.{Listed}
use Rattle.terms.specs.declared.Scheme.{Scheme}
use Rattle.formula.specs.Lent.{formula_of}
use Rattle.formula_rules.specs.Rules.{read_by}
use Rattle.dqbf_sets.specs.Depends.{DependsOnBy}
use Rattle.dqbf_sets.specs.Answers.{set_order}
use Rattle.snowcoddle.proofs.Listing.{small_set}
use Rattle.snowcoddle.proofs.Telling.{fits_filling, tell_filling_by}
use Rattle.snowcoddle.proofs.dependent.snow_listed_set_by.Goals as goal

pub lay-requires : goal.lay-requires
lay-requires c =
    let a = c.args in
    let f = formula_of a.n a.prefix.now a.clauses.now in
    let asked = DependsOnBy c.scheme_in.result (read_by a.rule f) a.lists.now a.x in
    let b = c.set_of-answer in
    record {
      fits = fits_filling (set_order a.rule f a.lists.now a.x asked a.out.now) (Listed asked) a.out.now _ b.result
          (small_set a.rule f a.lists.now a.x asked a.out.now) b.ensures.listed;
    }

pub returns : goal.returns
returns c =
    let a = c.args in
    let f = formula_of a.n a.prefix.now a.clauses.now in
    let asked = λ (scheme : Scheme). DependsOnBy scheme (read_by a.rule f) a.lists.now a.x in
    let order = λ (scheme : Scheme). set_order a.rule f a.lists.now a.x (asked scheme) a.out.now in
    let b = c.set_of-answer in
    record {
      told = tell_filling_by order (λ (scheme : Scheme). Listed (asked scheme)) a.out.now _ c.scheme_in.ensures.asked b.result
          c.lay.ensures.laid b.ensures.listed;
    }
