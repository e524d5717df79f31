use Prim.Native.Nat.{◌+◌, ◌-◌}
use mathlib.Core.Path.{◌≡◌, sym, ◌∙◌}
use native.Mathlib.Omega.{arith}
use Rattle.std.proofs.Math.Nat.{add-sub_cancel}
use Rattle.sets_subtrees.specs.InnerRuns.{Floored}
use Rattle.sets_record.specs.InnerPlaces.{Placed}
use Rattle.sets.specs.InnerPassed.{SetsUpto, PutAll}
use Rattle.forest_tables.proofs.Readings.{new_zero}
use Rattle.forest_tables.proofs.Agreeing.{universal_agrees}
use Rattle.sets.proofs.Passes.{floored_first, universal_tied}
use Rattle.sets.proofs.AllSets.{sets_small, put_room, put_next, put_other, put_none}
use Rattle.sets.proofs.all_sets.pass_sets.Goals as goal
use Rattle.sets.proofs.all_sets.pass_sets.Goals.{Joined-universal_at, then-universal_at, else-universal_at}

pub loop-number-init : goal.loop-number-init
loop-number-init c =
    let a = c.args in
    record {
      most = omega arith;
      floored = floored_first c.requires.ready c.new.ensures.holds c.type_inv.levels;
      placed = λ top _ some. absurd (some (new_zero 4097 top));
      put = put_none a.pass.scheme a.pass.n a.prefix.now a.clauses.now a.classes.now a.parents.now a.pass.writing a.out.now;
    }

pub put_set-end-requires-clause-tied : goal.put_set-end-requires-clause-tied
put_set-end-requires-clause-tied c =
    let a = c.args in
    let ready = c.requires.ready in
    let few = ready.sound.few in
    let most = c.loop-number.invariant.most in
    let (list, all, size, _) = c.loop-number.invariant.put in
    let small = sets_small a.pass.scheme a.pass.n a.prefix.now a.clauses.now a.classes.now a.parents.now few (c.loop-number.number - 1) list (omega arith) all in
    (few, omega arith, universal_tied ready c.new-x.result.0 (sym c.universal_at.ensures.told ∙ c.if-universal_at.true))

pub put_set-end-requires-clause-led : goal.put_set-end-requires-clause-led
put_set-end-requires-clause-led c =
    let l = c.loop-number in
    let floored = c.refloor-floor.ensures.floored in
    (floored.over.most, floored.over.none, floored.within, floored.led, c.refloor-floor.ensures.placed l.out l.end l.invariant.placed)

pub put_set-end-requires-clause-room : goal.put_set-end-requires-clause-room
put_set-end-requires-clause-room c =
    let a = c.args in
    let ready = c.requires.ready in
    let x = c.new-x.result.0 in
    let is = c.new-x.ensures.holds in
    let low = c.loop-number.auto.number in
    let own = sym (universal_agrees ready.sound ready.table x) ∙ sym c.universal_at.ensures.told ∙ c.if-universal_at.true in
    let most = c.loop-number-test.true in
    let refloor = c.refloor-floor in
    put_room a.pass.scheme a.pass.n a.prefix.now a.clauses.now a.classes.now a.parents.now ready.sound.few ready.closed ready.formed
    (c.loop-number.number - 1) x refloor.result.level.0 refloor.new.tops a.pass.writing a.out.now (omega arith) c.loop-number.invariant.put own
    refloor.ensures.own refloor.ensures.floored.over.rows (omega arith) c.requires.room

-- what holds behind a number: the record of a universal is put, and for any other variable nothing
passed : (c : Joined-universal_at)
    → Floored c.args.pass.n c.args.prefix.now c.args.classes.now c.args.parents.now c.if-universal_at.floor.level.0 c.if-universal_at.floor.place
    c.if-universal_at.floor.from c.if-universal_at.tops c.if-universal_at.lead c.if-universal_at.after
    × Placed c.args.pass.n c.if-universal_at.tops c.if-universal_at.places c.if-universal_at.out c.if-universal_at.end
    × PutAll (SetsUpto c.args.pass.scheme c.args.pass.n c.args.prefix.now c.args.clauses.now c.args.classes.now c.args.parents.now c.loop-number.number)
    c.args.pass.writing c.args.out.now c.if-universal_at.out c.if-universal_at.end
passed c =
    let a = c.args in
    let ready = c.requires.ready in
    let l = c.loop-number in
    let m = l.number - 1 in
    let x = c.new-x.result.0 in
    let low = l.auto.number in
    let next : m + 1 ≡ l.number = omega arith in
    let is = c.new-x.ensures.holds ∙ sym next in
    let told = sym (universal_agrees ready.sound ready.table x) ∙ sym c.universal_at.ensures.told in
    elim c.if-universal_at.branch [
      | then-universal_at w ↦
          let floored = w.refloor-floor.ensures.floored in
          let more =
          put_next a.pass.scheme a.pass.n a.prefix.now a.clauses.now a.classes.now a.parents.now ready.sound.few ready.closed ready.formed m x
          w.refloor-floor.result.level.0 w.refloor-floor.new.tops a.pass.writing a.out.now is l.invariant.put (told ∙ w.if-universal_at.true)
          w.refloor-floor.ensures.own floored.over.rows w.put_set-end.ensures.put in
          rw (w.out-is, w.tops-is, w.lead-is, w.after-is, w.places-is, w.floor-is, w.end-is) (floored, w.put_set-end.ensures.placed, rw next at more)
      | else-universal_at w ↦
          let same =
          put_other a.pass.scheme a.pass.n a.prefix.now a.clauses.now a.classes.now a.parents.now m x a.pass.writing a.out.now is l.invariant.put
          (told ∙ w.if-universal_at.false) in
          rw (w.out-is, w.tops-is, w.lead-is, w.after-is, w.places-is, w.floor-is, w.end-is) (l.invariant.floored, l.invariant.placed, rw next at same)
    ]

pub loop-number-preserved : goal.loop-number-preserved
loop-number-preserved c =
    let (floored, placed, put) = passed (goal.at.loop-number-preserved c).Joined-universal_at in
    record { most = omega arith; floored = floored; placed = placed; put = rw (add-sub_cancel c.loop-number.number 1) put }

pub returns-after-universal_at : goal.returns-after-universal_at
returns-after-universal_at c =
    let (_, _, put) = passed (goal.at.returns-after-universal_at c).Joined-universal_at in
    let last : c.loop-number.number ≡ c.args.pass.n = omega arith in
    record { put = rw last at put }
