-- What the call for the resolution-path set answers is laid out as any list is.
use Rattle.terms.specs.Listed.{Listed}
use Rattle.formula.specs.Lent.{formula_of}
use Rattle.formula_rules.specs.Rules.{read_by}
use Rattle.forest_tables.specs.Lent.{variables_of}
use Rattle.path_resolution.specs.Paths.{DependsByPaths, resolution_order}
use Rattle.snowcoddle.proofs.Telling.{fits_filling, tell_filling}
use Rattle.snowcoddle.proofs.ResolutionTold.{small_resolution}
use Rattle.snowcoddle.proofs.resolving.snow_resolution_set.Goals as goal

pub lay-requires : goal.lay-requires
lay-requires c =
    let a = c.args in
    let f = formula_of a.n a.prefix.now a.clauses.now in
    let asked = Listed (DependsByPaths (variables_of (read_by a.rule f)) a.clauses.now a.x) in
    let b = c.resolution_set-answer in
    record {
      fits = fits_filling (resolution_order a.rule f a.x a.out.now) asked a.out.now _ b.result (small_resolution a.rule f a.x a.out.now)
          b.ensures.listed;
    }

pub returns : goal.returns
returns c =
    let a = c.args in
    let f = formula_of a.n a.prefix.now a.clauses.now in
    let asked = Listed (DependsByPaths (variables_of (read_by a.rule f)) a.clauses.now a.x) in
    let b = c.resolution_set-answer in
    record { told = tell_filling (resolution_order a.rule f a.x a.out.now) asked a.out.now _ b.result c.lay.ensures.laid b.ensures.listed }
