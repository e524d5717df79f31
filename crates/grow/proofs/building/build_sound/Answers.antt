-- The passes leave rows of the forest (rowed), the counting its counts, and the census of both is the tally of the list.
use Rattle.grow.proofs.Standings.{rowed_formed, census_tally}
use Rattle.grow.proofs.building.build_sound.Goals as goal

pub recount-requires : goal.recount-requires
recount-requires c =
    let pre = c.requires.sound in
    record { formed = (pre.0, rowed_formed c.args.n c.args.prefix.now c.grow-taken.ensures.rowed, pre.2.2) }

pub returns-clause-tally : goal.returns-clause-tally
returns-clause-tally c =
    let grow = c.grow-taken.ensures in
    census_tally c.args.n c.args.prefix.now grow.rowed _ c.take_census-seen.ensures.census grow.number
