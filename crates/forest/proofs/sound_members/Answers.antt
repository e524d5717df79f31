-- The entry points of x are flagged over its level, and what the flags pick is the set. It fits, since it has at most n members.
use mathlib.Core.List.{[]}
use native.Mathlib.Omega.{arith}
use borrow.Author.Rules.{rules}
use Rattle.formula.specs.Lent.{formula_of}
use Rattle.forest_tables.specs.Lent.{rows}
use Rattle.forest_members.specs.declared.Asked.TheVariants.{Set}
use Rattle.forest_members.specs.InnerPicked.{pick, picked}
use Rattle.forest_members.proofs.Picked.{picked_most}
use Rattle.forest.proofs.Listings.{members_picked}
use Rattle.forest.proofs.sound_members.Goals as goal

pub enter_over-requires : goal.enter_over-requires
enter_over-requires c =
    record {
      sound = c.requires.sound;
      formed = c.requires.formed;
      sizes = (search rules, search rules);
      place = c.requires.place;
    }

pub write_picked-requires : goal.write_picked-requires
write_picked-requires c =
    let a = c.args in
    let tops = c.enter_over.new.tops in
    let entered = c.enter_over.new.entered in
    let room = c.requires.room in
    let most = picked_most (pick Set a.n entered tops) a.n in
    record {
      skipped = (omega arith, λ v low high. absurd (omega arith));
      room = omega (arith, room, most);
    }

pub returns : goal.returns
returns c =
    let a = c.args in
    let tops = c.enter_over.new.tops in
    let entered = c.enter_over.new.entered in
    let f = formula_of a.n a.prefix.now a.clauses.now in
    let listed =
    members_picked f (rows a.classes.now a.parents.now []) a.x.0 c.requires.sound.0.few a.scheme tops c.enter_over.ensures.enters c.requires.formed in
    record { listed = (picked (pick Set a.n entered tops) a.n, listed, omega (arith, c.write_picked.ensures.behind), c.write_picked.ensures.written) }
