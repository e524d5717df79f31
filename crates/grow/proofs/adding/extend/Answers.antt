-- The rows are those of the joins with the clause, so they are well formed, and the counts and the class names follow from them.
use Rattle.grow.proofs.Standings.{rowed_formed}
use Rattle.grow.proofs.adding.extend.Goals as goal

pub recount-requires : goal.recount-requires
recount-requires c =
    let pre = c.requires in
    record { formed = (pre.sound.0, rowed_formed c.args.n c.args.prefix.now c.put_in.ensures.rowed, pre.rows.0.2) }

pub returns-clause-left : goal.returns-clause-left
returns-clause-left c =
    (c.take_census-seen.ensures.census.right c.args.prefix.now _ (rowed_formed c.args.n c.args.prefix.now c.put_in.ensures.rowed)).1
