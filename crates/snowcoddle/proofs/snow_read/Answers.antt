-- What read answers is laid out: a text holds no more entries than bytes, so that the counts fit their cells.
use Rattle.snowcoddle.proofs.Texts.{fits_read, tell_read}
use Rattle.snowcoddle.proofs.snow_read.Goals as goal

pub lay_counts-requires : goal.lay_counts-requires
lay_counts-requires c =
    let a = c.args in
    let b = c.read-answer in
    record { fits = fits_read a.text.now a.prefix.now _ a.clauses.now _ b.result b.ensures.answered }

pub returns : goal.returns
returns c =
    let a = c.args in
    let b = c.read-answer in
    record { told = tell_read a.text.now a.prefix.now _ a.clauses.now _ b.result c.lay_counts.ensures.laid b.ensures.answered }
