-- What is wrong with the clause comes first, and then what the tables and the tally are refused for.
use Rattle.grow.proofs.Accepted.{added_rows}
use Rattle.grow.proofs.adding.add_read.Goals as goal

pub add_sound-requires : goal.add_sound-requires
add_sound-requires c =
    let sound = c.requires.sound in
    record { sound = (sound, added_rows sound.few c.in-Ok.ensures.judged.0) }
