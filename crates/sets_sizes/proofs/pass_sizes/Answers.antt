use Prim.Native.Nat.{ℕ, ◌+◌, ◌-◌}
use mathlib.Core.Path.{◌≡◌, sym, ◌∙◌}
use native.Mathlib.Omega.{arith}
use lib.ListN.{replicate, length-replicate}
use Rattle.std.proofs.Math.Nat.{add-sub_cancel}
use Rattle.forest_tables.proofs.Readings.{new_zero}
use Rattle.forest_tables.proofs.Agreeing.{universal_agrees}
use Rattle.sets_subtrees.specs.InnerRuns.{Floored}
use Rattle.sets_sizes.specs.InnerNotes.{Notes}
use Rattle.sets_sizes.specs.InnerSizes.{Sizes}
use Rattle.sets.proofs.Passes.{floored_first, universal_tied}
use Rattle.sets_sizes.proofs.NotedTops.{notes_none, notes_follow}
use Rattle.sets_sizes.proofs.Sizing.{told_most, told_numbered, sizes_none, sizes_more, sizes_other}
use Rattle.sets_sizes.proofs.pass_sizes.Goals as goal
use Rattle.sets_sizes.proofs.pass_sizes.Goals.{Joined-universal_at, then-universal_at, else-universal_at}

pub loop-number-init : goal.loop-number-init
loop-number-init c =
    let a = c.args in
    let (long, zero, short) = c.requires.zero in
    record {
      most = omega arith;
      floored = floored_first c.requires.ready c.new.ensures.holds c.type_inv.levels;
      sized = sizes_none a.pass.scheme a.pass.n a.prefix.now a.clauses.now a.classes.now a.parents.now a.sizes.now zero;
      noted =
          notes_none a.pass.n (replicate 4096 0) a.clauses.now (replicate 16384 0) (let size = length-replicate {A = ℕ} 16384 0 in omega arith)
          (λ e _. new_zero 16384 e);
    }

pub size_of-size-requires-clause-tied : goal.size_of-size-requires-clause-tied
size_of-size-requires-clause-tied c = universal_tied c.requires.ready c.new-x.result.0 (sym c.universal_at.ensures.told ∙ c.if-universal_at.true)

-- the notes follow the tops
pub size_of-size-requires-clause-notes : goal.size_of-size-requires-clause-notes
size_of-size-requires-clause-notes c =
    let l = c.loop-number in
    let floor = c.refloor-floor in
    notes_follow c.args.pass.n l.tops floor.new.tops c.args.clauses.now l.notes c.forget.new.notes l.floor.level.0 floor.result.level.0 l.invariant.noted
    c.forget.auto.notes floor.ensures.own.1 c.forget.ensures.stays c.forget.ensures.gone

-- the size that is told is at most n
pub overflow_cast-sizes : goal.overflow_cast-sizes
overflow_cast-sizes c =
    let a = c.args in
    let few = c.requires.ready.sound.few in
    let low = told_most a.pass.scheme a.pass.n c.refloor-floor.new.tops a.clauses.now c.new-x.result.0 c.size_of-size.result c.size_of-size.ensures.told in
    omega arith

-- what holds behind a number: the row of a universal is stored, and that of any other variable stays
passed : (c : Joined-universal_at)
    → Floored c.args.pass.n c.args.prefix.now c.args.classes.now c.args.parents.now c.if-universal_at.floor.level.0 c.if-universal_at.floor.place
    c.if-universal_at.floor.from c.if-universal_at.tops c.if-universal_at.lead c.if-universal_at.after
    × Sizes c.args.pass.scheme c.args.pass.n c.args.prefix.now c.args.clauses.now c.args.classes.now c.args.parents.now c.if-universal_at.sizes
    c.loop-number.number
    × Notes c.args.pass.n c.if-universal_at.tops c.args.clauses.now c.if-universal_at.notes
passed c =
    let a = c.args in
    let ready = c.requires.ready in
    let l = c.loop-number in
    let m = l.number - 1 in
    let x = c.new-x.result.0 in
    let low = l.auto.number in
    let next : m + 1 ≡ l.number = omega arith in
    let is = c.new-x.ensures.holds ∙ sym next in
    let told = sym (universal_agrees ready.sound ready.table x) ∙ sym c.universal_at.ensures.told in
    elim c.if-universal_at.branch [
      | then-universal_at w ↦
          let few = ready.sound.few in
          let long = c.requires.zero.0 in
          let kept = l.auto.sizes in
          let refloor = w.refloor-floor in
          let floored = refloor.ensures.floored in
          let size = w.size_of-size in
          let numbered =
          told_numbered a.pass.scheme a.pass.n a.prefix.now a.clauses.now a.classes.now a.parents.now few ready.closed ready.formed x
          refloor.result.level.0 refloor.new.tops refloor.ensures.own.0 floored.over.rows size.result size.ensures.told in
          let more =
          sizes_more a.pass.scheme a.pass.n a.prefix.now a.clauses.now a.classes.now a.parents.now l.sizes m x is l.invariant.sized size.result
          (omega arith) (told ∙ w.if-universal_at.true) numbered in
          rw (w.sizes-is, w.tops-is, w.lead-is, w.after-is, w.notes-is, w.floor-is)
          (floored, rw (c.new-x.ensures.holds, next) at more, size.ensures.noted)
      | else-universal_at w ↦
          let same =
          sizes_other a.pass.scheme a.pass.n a.prefix.now a.clauses.now a.classes.now a.parents.now l.sizes m x is l.invariant.sized
          (told ∙ w.if-universal_at.false) in
          rw (w.sizes-is, w.tops-is, w.lead-is, w.after-is, w.notes-is, w.floor-is) (l.invariant.floored, rw next at same, l.invariant.noted)
    ]

pub loop-number-preserved : goal.loop-number-preserved
loop-number-preserved c =
    let (floored, sized, noted) = passed (goal.at.loop-number-preserved c).Joined-universal_at in
    record { most = omega arith; floored = floored; sized = rw (add-sub_cancel c.loop-number.number 1) sized; noted = noted }

pub returns-after-universal_at : goal.returns-after-universal_at
returns-after-universal_at c =
    let (_, sized, _) = passed (goal.at.returns-after-universal_at c).Joined-universal_at in
    let last : c.loop-number.number ≡ c.args.pass.n = omega arith in
    record { sized = rw last at sized }
