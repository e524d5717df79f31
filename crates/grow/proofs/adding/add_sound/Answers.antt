-- What the tables are refused for comes first, and then what the tally is.
use Rattle.forest_tables.proofs.Agreeing.{none_formed}
use Rattle.grow.proofs.Accepted.{long_enough}
use Rattle.grow.proofs.adding.add_sound.Goals as goal

pub add_formed-requires-clause-rows : goal.add_formed-requires-clause-rows
add_formed-requires-clause-rows c =
    let none = c.in-Ok.ensures.judged.0 in
    (long_enough none, none_formed none)
