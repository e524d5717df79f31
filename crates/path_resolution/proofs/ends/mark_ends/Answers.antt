-- What may not be passed is marked first, so that the walk marks beside it exactly the ends of paths (ends_are).
use mathlib.Core.Path.{refl, ◌∙◌}
use Rattle.path_resolution.proofs.Reaching.{rowed, ends_are}
use Rattle.path_resolution.proofs.ends.mark_ends.Goals as goal

pub literal_step-requires : goal.literal_step-requires
literal_step-requires c =
    let (few, read, size) = c.requires.few in
    let (chained, own) = c.requires.chained in
    record { chained = (chained, rowed c.bar.new.marks few read (c.bar.auto.marks ∙ size), own) }

pub returns : goal.returns
returns c = record { ends = ends_are c.requires.few.1 refl c.bar.ensures.barred c.literal_step.ensures.walked }
