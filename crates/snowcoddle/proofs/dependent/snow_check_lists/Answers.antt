-- The verdict of the check of lists is laid out: every place fits its cell.
use Rattle.formula.specs.Lent.{formula_of}
use Rattle.dqbf_lists.specs.Causes.{check_lists_order}
use Rattle.snowcoddle.proofs.Listing.{small_lists}
use Rattle.snowcoddle.proofs.Telling.{fits_verdict, tell_verdict}
use Rattle.snowcoddle.proofs.dependent.snow_check_lists.Goals as goal

pub lay_verdict-requires : goal.lay_verdict-requires
lay_verdict-requires c =
    let a = c.args in
    let f = formula_of a.n a.prefix.now a.clauses.now in
    record { fits = fits_verdict (check_lists_order a.rule f a.lists.now) c.check.result (small_lists a.rule f a.lists.now) c.check.ensures.judged }

pub returns : goal.returns
returns c =
    let a = c.args in
    let f = formula_of a.n a.prefix.now a.clauses.now in
    record { told = tell_verdict (check_lists_order a.rule f a.lists.now) c.check.result c.lay_verdict.ensures.laid c.check.ensures.judged }
