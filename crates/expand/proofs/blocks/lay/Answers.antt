use native.Mathlib.Omega.{arith}
use Rattle.expand.proofs.Laying.{laid_mark, laid_close, laid_x, begun_few, laid_variable_on, laid_all}
use Rattle.expand.proofs.blocks.lay.Goals.{then-entry-eq0, else-entry-eq0+then-entry-x, else-entry-eq0+else-entry-x}
use Rattle.expand.proofs.blocks.lay.Goals as goal

pub loop-entry-preserved-in_default : goal.loop-entry-preserved-in_default
loop-entry-preserved-in_default c = laid_mark c.loop-entry.invariant c.loop-entry-test.true c.in_default.is

pub place-count-requires : goal.place-count-requires
place-count-requires c =
    let i = c.loop-entry.invariant in
    let few = begun_few i c.loop-entry-test.true c.in-Some.is c.if-entry-eq0.false c.begin-begun.ensures.stored in
    record { within = omega (arith, few, i.within, c.requires.sound.1.short) }

pub loop-entry-preserved : goal.loop-entry-preserved
loop-entry-preserved c =
    let i = c.loop-entry.invariant in
    let more = c.loop-entry-test.true in
    let mark = c.in-Some.is in
    elim c.if-entry-eq0.branch [
      | then-entry-eq0 w ↦ rw (w.block-is, w.last-is, w.out-is, w.count-is) (laid_close i more mark w.if-entry-eq0.true)
      | else-entry-eq0+then-entry-x w ↦
          rw (w.block-is, w.last-is, w.out-is, w.count-is)
          (laid_variable_on i more mark w.if-entry-eq0.false w.begin-begun.ensures.stored w.new.ensures.holds w.if-entry-x.true w.place-count.ensures.stored)
      | else-entry-eq0+else-entry-x w ↦ rw (w.block-is, w.last-is, w.out-is, w.count-is) (laid_x i more mark w.if-entry-eq0.false w.if-entry-x.false)
    ]

pub returns : goal.returns
returns c = record { stored = laid_all c.loop-entry.invariant c.requires.sound.1 c.loop-entry-test.false c.close.ensures.stored }
