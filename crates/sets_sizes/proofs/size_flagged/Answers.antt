-- The flags of the entry points tell the set, and what is under them is its size.
use mathlib.Core.Path.{◌∙◌}
use Rattle.forest_entries.proofs.Flags.{fresh}
use Rattle.sets_sizes.proofs.size_flagged.Goals as goal

pub flag_points-requires : goal.flag_points-requires
flag_points-requires c = record { tied = (c.requires.tied, fresh) }

pub drain_along-requires : goal.drain_along-requires
drain_along-requires c =
    let flagged = c.flag_points in
    record {
      tied = c.requires.tied;
      weighed = c.requires.weighed;
      entered = (flagged.auto.flags ∙ fresh.size, (c.args.scheme, flagged.ensures.entered));
    }

pub returns : goal.returns
returns c =
    let flagged = c.flag_points in
    record { told = (flagged.new.flags, flagged.ensures.entered, c.drain_along.ensures.summed) }
