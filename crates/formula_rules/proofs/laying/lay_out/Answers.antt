use Prim.Native.Nat.{◌+◌, ◌<◌}
use mathlib.Core.Path.{sym, ◌∙◌}
use native.Mathlib.Omega.{arith}
use lib.ListN.{length}
use Rattle.formula_rules.specs.InnerWriting.{closing}
use Rattle.formula_rules.proofs.Written.{write_none, mark_room, closed_room, write_mark, write_no_mark, write_close, name_room, write_variable}
use Rattle.formula_rules.proofs.Written.{last_room, written_all}
use Rattle.formula_rules.proofs.laying.lay_out.Goals as goal
use Rattle.formula_rules.proofs.laying.lay_out.Goals.{then-opens+then-begins_after, then-opens+else-begins_after}
use Rattle.formula_rules.proofs.laying.lay_out.Goals.{else-opens+then-entry-eq0, else-opens+else-entry-eq0}

pub loop-i-init : goal.loop-i-init
loop-i-init c = write_none c.requires.accepted.1 c.args.out.now c.requires.room

pub close-closed-requires : goal.close-closed-requires
close-closed-requires c =
    let room : c.loop-i.count + length (closing c.loop-i.last)
    < length c.loop-i.out = let none = c.requires.accepted.1 in
    let s = c.loop-i.invariant in
    let all = mark_room none s c.loop-i-test.true c.if-opens.true (sym c.if-begins_after.true ∙ c.begins_after.ensures.told) in
    omega (arith, s.size) in
    let l = room in
    record {
      room = λ some. omega arith;
      within = omega arith;
    }

pub offset_bounds-out-closed : goal.offset_bounds-out-closed
offset_bounds-out-closed c =
    let room : c.loop-i.count + length (closing c.loop-i.last)
    < length c.loop-i.out = let none = c.requires.accepted.1 in
    let s = c.loop-i.invariant in
    let all = mark_room none s c.loop-i-test.true c.if-opens.true (sym c.if-begins_after.true ∙ c.begins_after.ensures.told) in
    omega (arith, s.size) in
    let mark-fits : c.close-closed.result < length c.close-closed.new.out = let l = room in
    let end = c.close-closed.ensures.put.end in
    let same = c.close-closed.ensures.put.size in
    omega arith in
    let l = mark-fits in omega arith

pub bounds-out-closed : goal.bounds-out-closed
bounds-out-closed c =
    let room : c.loop-i.count + length (closing c.loop-i.last)
    < length c.loop-i.out = let none = c.requires.accepted.1 in
    let s = c.loop-i.invariant in
    let all = mark_room none s c.loop-i-test.true c.if-opens.true (sym c.if-begins_after.true ∙ c.begins_after.ensures.told) in
    omega (arith, s.size) in
    let mark-fits : c.close-closed.result < length c.close-closed.new.out = let l = room in
    let end = c.close-closed.ensures.put.end in
    let same = c.close-closed.ensures.put.size in
    omega arith in
    mark-fits

pub overflow_add-count : goal.overflow_add-count
overflow_add-count c =
    let none = c.requires.accepted.1 in
    let low = closed_room none c.loop-i.invariant c.loop-i-test.true c.if-opens.true c.close-closed.ensures.put in
    omega arith

pub bounds-out-count : goal.bounds-out-count
bounds-out-count c =
    let s = c.loop-i.invariant in
    let none = c.requires.accepted.1 in
    let l = name_room none s c.loop-i-test.true c.if-opens.false c.if-entry-eq0.false in
    omega (arith, s.size)

pub overflow_add-count-else-entry-eq0 : goal.overflow_add-count-else-entry-eq0
overflow_add-count-else-entry-eq0 c =
    let l = c.loop-i.invariant.room in
    omega arith

pub loop-i-preserved : goal.loop-i-preserved
loop-i-preserved c =
    let none = c.requires.accepted.1 in
    let s = c.loop-i.invariant in
    let more = c.loop-i-test.true in
    elim c.if-opens.branch [
      | then-opens+then-begins_after w ↦ rw (w.out-is, w.opens-is, w.last-is, w.count-is)
          (write_mark none s more w.if-opens.true w.close-closed.ensures.put (sym w.if-begins_after.true ∙ w.begins_after.ensures.told))
      | then-opens+else-begins_after w ↦ rw (w.out-is, w.opens-is, w.last-is, w.count-is)
          (write_no_mark none s more w.if-opens.true (sym w.if-begins_after.false ∙ w.begins_after.ensures.told))
      | else-opens+then-entry-eq0 w ↦ rw (w.out-is, w.opens-is, w.last-is, w.count-is)
          (write_close none s more w.if-opens.false w.if-entry-eq0.true)
      | else-opens+else-entry-eq0 w ↦ rw (w.out-is, w.opens-is, w.last-is, w.count-is)
          (write_variable none s more w.if-opens.false w.if-entry-eq0.false)
    ]

pub close-requires : goal.close-requires
close-requires c =
    let s = c.loop-i.invariant in
    let fits = s.fits in
    record {
      room = last_room c.requires.accepted.1 s c.loop-i-test.false;
      within = omega (arith, s.size);
    }

pub shape_of-out : goal.shape_of-out
shape_of-out c = c.close.ensures.put.size ∙ c.loop-i.invariant.size

pub returns : goal.returns
returns c =
    let w = written_all c.requires.accepted.1 c.loop-i.invariant c.loop-i-test.false c.close.ensures.put in
    record { within = w.0; written = w.1 }
