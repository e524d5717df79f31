-- What read answers is laid out: a text holds no more entries than bytes, so that the counts fit their cells.
use Rattle.dqbf_text.specs.Reading.{Tables}
use Rattle.snowcoddle.proofs.Depending.{fits_read, tell_read}
use Rattle.snowcoddle.proofs.listed.snow_read_lists.Goals as goal

pub lay_listed-requires : goal.lay_listed-requires
lay_listed-requires c =
    let a = c.args in
    let b = c.read-answer in
    let lent : Tables = (a.prefix.now, a.clauses.now, a.lists.now) in
    let left : Tables = (b.new.prefix, b.new.clauses, b.new.lists) in
    record { fits = fits_read a.text.now lent left b.result b.ensures.answered }

pub returns : goal.returns
returns c =
    let a = c.args in
    let b = c.read-answer in
    let lent : Tables = (a.prefix.now, a.clauses.now, a.lists.now) in
    let left : Tables = (b.new.prefix, b.new.clauses, b.new.lists) in
    record { told = tell_read a.text.now lent left b.result c.lay_listed.ensures.laid b.ensures.answered }
