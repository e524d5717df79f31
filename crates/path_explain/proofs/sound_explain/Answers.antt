-- The level table is that of the prefix, which is sound: so what is written by the table is written by the prefix.
use Rattle.path_explain.proofs.sound_explain.Goals as goal

pub explain_by_levels-requires : goal.explain_by_levels-requires
explain_by_levels-requires c = record { sound = (c.requires.sound.1, c.requires.sound.2, c.requires.sound.0.few) }

pub returns : goal.returns
returns c = record { explained = c.explain_by_levels.ensures.explained c.args.prefix.now c.requires.sound.0 c.fill_levels.ensures.levelled }
