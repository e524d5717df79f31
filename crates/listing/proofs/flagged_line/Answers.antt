-- The flags are those that flag_points sets in a new table, and the line is picked by them.
use Rattle.forest_entries.proofs.Flags.{fresh}
use Rattle.listing.proofs.flagged_line.Goals as goal

pub flag_points-requires : goal.flag_points-requires
flag_points-requires c = record { tied = (c.requires.tied.3, fresh) }

pub returns : goal.returns
returns c = record { stored = (c.flag_points.new.flags, c.flag_points.ensures.entered, c.picked_line.ensures.stored) }
