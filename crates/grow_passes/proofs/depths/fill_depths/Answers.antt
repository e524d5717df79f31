-- The levels and quantifiers that `fill_levels` leaves are those of the prefix, so that the depths made of them are its depths.
use mathlib.Core.Path.{◌∙◌}
use Rattle.grow_passes.proofs.Passes.{levels_most, depths_are}
use Rattle.grow_passes.proofs.depths.fill_depths.Goals as goal

pub rank-requires : goal.rank-requires
rank-requires c =
    let levelled = c.fill_levels.ensures in
    record { tables = (levelled.levelled.sizes.0, levelled.levelled.sizes.1, c.requires.table, levels_most c.requires.sound levelled.levelled) }

pub returns : goal.returns
returns c =
    let size = c.rank.auto.depths ∙ c.requires.table.size in
    record { depths = depths_are c.requires.sound c.fill_levels.ensures.levelled size c.rank.ensures.depths }
