-- What the flags pick is the list (grows_listed), and there is room for it or not (picks_listing).
use mathlib.Core.List.{[]}
use Rattle.forest_members.specs.declared.Asked.TheVariants.{Points}
use Rattle.forest_members.specs.InnerPicked.{pick}
use Rattle.forest.proofs.Listings.{picks_listing}
use Rattle.grow_changed.proofs.Telling.{grows_listed}
use Rattle.grow_changed.proofs.growing.list_changed.Goals as goal

pub returns : goal.returns
returns c =
    let a = c.args in
    let (_, fit) = c.requires.sound in
    let formed = c.requires.formed in
    let flags = c.flag_changed.new.flags in
    let listed = grows_listed a.scheme a.n a.prefix.now a.clauses.now a.classes.now a.parents.now a.clause.now fit formed flags
    a.classes.now c.flag_changed.ensures.flagged in
    record {
      listed = picks_listing [] (pick Points a.n flags a.classes.now) a.n a.out.now c.list_picked.new.out tt listed
          c.list_picked.result c.list_picked.ensures.listed;
    }
