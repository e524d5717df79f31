-- Both lists are written into new tables, in front of which they stand, so that the line is that of the two lists.
use Prim.Native.Nat.{ℕ}
use mathlib.Core.Path.{sym, subst, subst₂}
use mathlib.Core.List.{List}
use native.Mathlib.Omega.{arith}
use lib.Seq.{length-take-le}
use Rattle.forest_members.specs.declared.Asked.TheVariants.{Points, Set}
use Rattle.forest_members.specs.InnerPicked.{pick}
use Rattle.listing_lines.specs.Lines.{universal_line, LineIn}
use Rattle.listing_lines.specs.Inner.{Small}
use Rattle.listing.proofs.Printed.{picked_small, picked_room, picked_front}
use Rattle.listing.proofs.picked_line.Goals as goal

pub write_picked-found-requires : goal.write_picked-found-requires
write_picked-found-requires c =
    let a = c.args in
    let room = picked_room (pick Points a.n a.entered.now a.tops.now) a.n c.requires.small.0 in
    record { skipped = room.0; room = room.1 }

pub write_picked-size-requires : goal.write_picked-size-requires
write_picked-size-requires c =
    let a = c.args in
    let room = picked_room (pick Set a.n a.entered.now a.tops.now) a.n c.requires.small.0 in
    record { skipped = room.0; room = room.1 }

pub slice_bounds-entries-end : goal.slice_bounds-entries-end
slice_bounds-entries-end c =
    let a = c.args in
    let points = c.write_picked-found.ensures in
    (picked_front (pick Points a.n a.entered.now a.tops.now) a.n c.requires.small.0 points.behind points.written).0

pub slice_bounds-universal_line-end : goal.slice_bounds-universal_line-end
slice_bounds-universal_line-end c =
    let a = c.args in
    let call = c.write_picked-found in
    let points = call.ensures in
    sym (length-take-le call.result call.new.out
    (picked_front (pick Points a.n a.entered.now a.tops.now) a.n c.requires.small.0 points.behind points.written).0)

pub slice_bounds-set-end : goal.slice_bounds-set-end
slice_bounds-set-end c =
    let a = c.args in
    let set = c.write_picked-size.ensures in
    (picked_front (pick Set a.n a.entered.now a.tops.now) a.n c.requires.small.0 set.behind set.written).0

pub slice_bounds-universal_line-end-2 : goal.slice_bounds-universal_line-end-2
slice_bounds-universal_line-end-2 c =
    let a = c.args in
    let call = c.write_picked-size in
    let set = call.ensures in
    sym (length-take-le call.result call.new.out
    (picked_front (pick Set a.n a.entered.now a.tops.now) a.n c.requires.small.0 set.behind set.written).0)

pub universal_line-requires : goal.universal_line-requires
universal_line-requires c =
    let a = c.args in
    let (few, x, level, long) = c.requires.small in
    let points = c.write_picked-found.ensures in
    let set = c.write_picked-size.ensures in
    let f = pick Points a.n a.entered.now a.tops.now in
    let g = pick Set a.n a.entered.now a.tops.now in
    let entries-small = subst Small (sym (picked_front f a.n few points.behind points.written).1) (picked_small f a.n few) in
    let set-small = subst Small (sym (picked_front g a.n few set.behind set.written).1) (picked_small g a.n few) in
    record { small = (omega arith, level, entries-small, set-small, long) }

pub returns : goal.returns
returns c =
    let a = c.args in
    let few = c.requires.small.0 in
    let points = c.write_picked-found.ensures in
    let set = c.write_picked-size.ensures in
    let call = c.universal_line in
    record {
      stored =
          subst₂ (λ (e m : List ℕ). LineIn (universal_line a.x.0 a.level.0 e m) a.line.now call.new.out call.result)
          (picked_front (pick Points a.n a.entered.now a.tops.now) a.n few points.behind points.written).1
          (picked_front (pick Set a.n a.entered.now a.tops.now) a.n few set.behind set.written).1 call.ensures.stored;
    }
