-- What loading answers is laid out: n, the counts and whether there are sets in their cells, with the tables as it leaves them.
use Rattle.forest_tables.specs.Lent.{rows}
use Rattle.file_format.specs.Causes.{lent_tables}
use Rattle.snowcoddle.proofs.Filed.{fits_load, tell_load}
use Rattle.snowcoddle.proofs.files.snow_load.Goals as goal

pub lay_loaded-requires : goal.lay_loaded-requires
lay_loaded-requires c =
    let a = c.args in
    let b = c.load-answer in
    let lent = lent_tables a.prefix.now a.clauses.now (rows a.classes.now a.parents.now a.counts.now) in
    let left = lent_tables b.new.prefix b.new.clauses (rows b.new.classes b.new.parents b.new.counts) in
    record { fits = fits_load a.rule a.file.now lent left b.result b.ensures.loaded }

pub returns : goal.returns
returns c =
    let a = c.args in
    let b = c.load-answer in
    let lent = lent_tables a.prefix.now a.clauses.now (rows a.classes.now a.parents.now a.counts.now) in
    let left = lent_tables b.new.prefix b.new.clauses (rows b.new.classes b.new.parents b.new.counts) in
    record { told = tell_load a.rule a.file.now lent left b.result c.lay_loaded.ensures.laid b.ensures.loaded }
