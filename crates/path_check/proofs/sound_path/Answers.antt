-- The level table is that of the prefix, which is sound: so what is judged by the table is judged by the prefix.
use Rattle.path_check.proofs.sound_path.Goals as goal

pub returns : goal.returns
returns c = record { judged = c.path_by_levels.ensures.judged c.args.prefix.now c.requires.sound.0 c.fill_levels.ensures.levelled }
