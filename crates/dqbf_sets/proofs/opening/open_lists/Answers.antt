use native.Mathlib.Omega.{arith}
use Rattle.dqbf_sets.proofs.Opened.{open_y, open_other, open_close, open_x, y_within, open_all}
use Rattle.dqbf_sets.proofs.opening.open_lists.Goals.{then-entry-x, else-entry-x+then-entry-eq0, else-entry-x+else-entry-eq0}
use Rattle.dqbf_sets.proofs.opening.open_lists.Goals as goal

pub loop-entry-preserved-in_default : goal.loop-entry-preserved-in_default
loop-entry-preserved-in_default c = open_y c.requires.listed c.loop-entry.invariant c.loop-entry-test.true c.in_default.is

pub bounds-rows-y : goal.bounds-rows-y
bounds-rows-y c =
    let (some, low) = y_within c.requires.listed c.loop-entry.invariant c.loop-entry-test.true c.in-Some.is in
    omega (arith, some, low, c.requires.room.1, c.loop-entry.auto.rows)

pub loop-entry-preserved : goal.loop-entry-preserved
loop-entry-preserved c =
    let listed = c.requires.listed in
    let i = c.loop-entry.invariant in
    let more = c.loop-entry-test.true in
    let y = c.in-Some.is in
    elim c.if-entry-x.branch [
      | then-entry-x w ↦
          rw (w.open-is, w.rows-is)
          (open_x listed i more y w.if-entry-x.true c.requires.some (omega (arith, c.requires.room.1, c.loop-entry.auto.rows)))
      | else-entry-x+then-entry-eq0 w ↦ rw (w.open-is, w.rows-is) (open_close listed i more y w.if-entry-x.false w.if-entry-eq0.true)
      | else-entry-x+else-entry-eq0 w ↦ rw (w.open-is, w.rows-is) (open_other listed i more y w.if-entry-x.false w.if-entry-eq0.false)
    ]

pub returns : goal.returns
returns c = record { opened = open_all c.loop-entry.invariant c.loop-entry-test.false }
