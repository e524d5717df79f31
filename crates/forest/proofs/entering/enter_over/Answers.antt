-- The tops are filled from behind the blocks up to the level of x, and then the flags are set by them.
use mathlib.Core.Path.{refl}
use native.Mathlib.Omega.{arith}
use mathlib.Core.List.{[]}
use Rattle.formula.specs.Lent.{formula_of}
use Rattle.forest_tables.specs.Lent.{rows}
use Rattle.forest.proofs.Schemes.{over_enters}
use Rattle.forest.proofs.entering.enter_over.Goals as goal

pub place_behind-place-requires : goal.place_behind-place-requires
place_behind-place-requires c =
    let place = c.requires.place in
    record { opening = ((c.args.n, c.requires.sound.0), refl, (c.args.x.0, place.0, omega arith)) }

pub fill_tops-requires : goal.fill_tops-requires
fill_tops-requires c =
    let (sound, _) = c.requires.sound in
    let (size, _) = c.requires.sizes in
    let place = c.requires.place in
    let few = sound.few in
    let (open', there) = c.place_behind-place.ensures.behind in
    record { sound = (sound, c.requires.formed, omega (arith, size), (c.args.x.0, place.0, (open', omega arith))) }

pub returns : goal.returns
returns c =
    let a = c.args in
    let place = c.requires.place in
    let (open', there) = c.place_behind-place.ensures.behind in
    let tops = c.fill_tops in
    record {
      enters = over_enters (formula_of a.n a.prefix.now a.clauses.now) (rows a.classes.now a.parents.now []) a.x.0 a.floor.0
          tops.new.tops a.scheme c.requires.formed place.1 (tops.ensures.topped a.floor.0 (open', omega arith)) c.flag_entries.ensures.entered;
    }
