-- The verdict of the path check is told as it is: its cell for the place is as wide as a length.
use Rattle.formula.specs.Lent.{formula_of}
use Rattle.path_check.specs.Causes.{path_order}
use Rattle.snowcoddle.proofs.Telling.{tell_accepted, tell_refused}
use Rattle.snowcoddle.proofs.pairs.snow_path.Goals as goal

pub returns-in-Err : goal.returns-in-Err
returns-in-Err c =
    let a = c.args in
    let order = path_order a.rule (formula_of a.n a.prefix.now a.clauses.now) a.x a.y a.path.now in
    record { told = rw c.number.ensures.numbered (tell_refused order _ c.in-Err.is c.path_verdict-answer.ensures.judged tt) }

pub returns-in-Ok : goal.returns-in-Ok
returns-in-Ok c =
    let a = c.args in
    let order = path_order a.rule (formula_of a.n a.prefix.now a.clauses.now) a.x a.y a.path.now in
    record { told = tell_accepted order _ c.in-Ok.is c.path_verdict-answer.ensures.judged tt }
