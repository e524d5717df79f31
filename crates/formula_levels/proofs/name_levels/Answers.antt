use Rattle.std.proofs.Common.{arith, sym, ◌∙◌}
use Rattle.formula.proofs.Levelling.{level_none, level_mark, level_close, level_variable, levelled, variable_small}
use Rattle.formula_levels.proofs.name_levels.Goals as goal
use Rattle.formula_levels.proofs.name_levels.Goals.{then-opens, else-opens+then-entry-eq0, else-opens+else-entry-eq0}

pub loop-entry-init : goal.loop-entry-init
loop-entry-init c =
    let a = c.args in
    level_none c.requires.sound.1 a.levels.now a.universals.now c.requires.rows c.requires.free.0 c.requires.free.1

pub bounds-levels-v : goal.bounds-levels-v
bounds-levels-v c =
    let shut = sym c.loop-entry.invariant.opening_is ∙ c.if-opens.false in
    let low = variable_small c.requires.sound.1 c.loop-entry.entry-index c.loop-entry-test.true shut c.if-entry-eq0.false in
    omega (arith, c.loop-entry.invariant.sizes.0)

pub bounds-universals-v : goal.bounds-universals-v
bounds-universals-v c =
    let shut = sym c.loop-entry.invariant.opening_is ∙ c.if-opens.false in
    let low = variable_small c.requires.sound.1 c.loop-entry.entry-index c.loop-entry-test.true shut c.if-entry-eq0.false in
    omega (arith, c.loop-entry.invariant.sizes.1)

pub loop-entry-preserved : goal.loop-entry-preserved
loop-entry-preserved c =
    let sound = c.requires.sound.1 in
    let inv = c.loop-entry.invariant in
    let more = c.loop-entry-test.true in
    elim c.if-opens.branch [
      | then-opens w ↦ rw (w.opens-is, w.mark-is, w.block-is, w.levels-is, w.universals-is) (level_mark sound inv more w.if-opens.true)
      | else-opens+then-entry-eq0 w ↦ rw (w.opens-is, w.mark-is, w.block-is, w.levels-is, w.universals-is)
          (level_close sound inv more w.if-opens.false w.if-entry-eq0.true)
      | else-opens+else-entry-eq0 w ↦ rw (w.opens-is, w.mark-is, w.block-is, w.levels-is, w.universals-is)
          (level_variable sound inv more w.if-opens.false w.if-entry-eq0.false)
    ]

pub returns : goal.returns
returns c = record { levelled = levelled c.loop-entry.invariant c.loop-entry-test.false }
