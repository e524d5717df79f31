-- The verdict of check is laid out.
use Rattle.formula.specs.Lent.{formula_of}
use Rattle.formula_rules.specs.Rules.{check_order}
use Rattle.snowcoddle.proofs.Places.{small_check}
use Rattle.snowcoddle.proofs.Telling.{fits_verdict, tell_verdict}
use Rattle.snowcoddle.proofs.snow_check.Goals as goal

pub lay_verdict-requires : goal.lay_verdict-requires
lay_verdict-requires c =
    let a = c.args in
    let f = formula_of a.n a.prefix.now a.clauses.now in
    record { fits = fits_verdict (check_order a.rule f) c.check.result (small_check a.rule f) c.check.ensures.judged }

pub returns : goal.returns
returns c =
    let a = c.args in
    let f = formula_of a.n a.prefix.now a.clauses.now in
    record { told = tell_verdict (check_order a.rule f) c.check.result c.lay_verdict.ensures.laid c.check.ensures.judged }
