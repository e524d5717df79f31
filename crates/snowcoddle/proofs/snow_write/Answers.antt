-- What write answers is laid out: its places fit, since those of check do and a text has at most as many bytes as may be written.
use Rattle.formula.specs.Lent.{formula_of}
use Rattle.formula_rules.specs.Rules.{check_order}
use Rattle.text_qdimacs.specs.Stored.{formula_text}
use Rattle.snowcoddle.proofs.Places.{small_check}
use Rattle.snowcoddle.proofs.Writes.{fits_write, tell_write}
use Rattle.snowcoddle.proofs.snow_write.Goals as goal

pub lay-requires : goal.lay-requires
lay-requires c =
    let a = c.args in
    let f = formula_of a.n a.prefix.now a.clauses.now in
    let b = c.write-answer in
    record { fits = fits_write (check_order a.rule f) (formula_text f) a.text.now _ b.result (small_check a.rule f) b.ensures.answered }

pub returns : goal.returns
returns c =
    let a = c.args in
    let f = formula_of a.n a.prefix.now a.clauses.now in
    let b = c.write-answer in
    record { told = tell_write (check_order a.rule f) (formula_text f) a.text.now _ b.result c.lay.ensures.laid b.ensures.answered }
