-- The level table is that of the prefix, which is sound: so what is listed by the table is listed by the prefix.
use Rattle.path_resolution.proofs.sound_set.Goals as goal

pub returns : goal.returns
returns c = record { listed = c.set_by_levels.ensures.listed c.args.prefix.now c.requires.sound.0 c.fill_levels.ensures.levelled }
