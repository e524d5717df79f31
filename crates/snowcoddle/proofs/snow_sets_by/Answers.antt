-- What the call for all sets answers is laid out, and what holds by the scheme that was found holds by the one that is asked for.
use Rattle.terms.specs.declared.Scheme.{Scheme}
use Rattle.formula.specs.Lent.{formula_of}
use Rattle.formula_rules.specs.Rules.{read_by}
use Rattle.forest_tables.specs.Lent.{rows}
use Rattle.sets.specs.Sets.{AllSetsBy, sets_order}
use Rattle.snowcoddle.proofs.Places.{small_sets}
use Rattle.snowcoddle.proofs.Telling.{fits_filling, tell_filling_by}
use Rattle.snowcoddle.proofs.snow_sets_by.Goals as goal

pub lay-requires : goal.lay-requires
lay-requires c =
    let a = c.args in
    let f = formula_of a.n a.prefix.now a.clauses.now in
    let r = rows a.classes.now a.parents.now a.counts.now in
    let found = c.scheme_in.result in
    let b = c.sets-answer in
    record {
      fits = fits_filling (sets_order a.rule found f r a.out.now) (AllSetsBy found (read_by a.rule f) r) a.out.now _ b.result
          (small_sets a.rule f r found a.out.now) b.ensures.listed;
    }

pub returns : goal.returns
returns c =
    let a = c.args in
    let f = formula_of a.n a.prefix.now a.clauses.now in
    let r = rows a.classes.now a.parents.now a.counts.now in
    let b = c.sets-answer in
    record {
      told = tell_filling_by (λ (scheme : Scheme). sets_order a.rule scheme f r a.out.now)
          (λ (scheme : Scheme). AllSetsBy scheme (read_by a.rule f) r) a.out.now _ c.scheme_in.ensures.asked b.result
          c.lay.ensures.laid b.ensures.listed;
    }
