-- p and q have rows, and so has p's parent; the two arms are the laws for q hung between p and its parent, and for the rise to the parent.
use Prim.Native.Nat.{◌<◌}
use native.Mathlib.Omega.{arith}
use lib.ListN.{get_or}
use Rattle.terms.specs.InnerLimits.{variable_rows}
use Rattle.grow_union_find.proofs.Steps.{parent_inside, step_rows, step_hang, step_rise}
use Rattle.grow_union_find.proofs.hang.Goals as goal

pub bounds-parents-at : goal.bounds-parents-at
bounds-parents-at c = (step_rows c.requires.roots.1).0.parent

pub overflow_cast-up : goal.overflow_cast-up
overflow_cast-up c =
    let parent_row : get_or c.args.parents.now c.args.p.0 0 < variable_rows = parent_inside c.requires.roots.1.growing c.args.p.0 in
    omega (arith, parent_row)

pub offset_bounds-depths-up : goal.offset_bounds-depths-up
offset_bounds-depths-up c =
    let parent_row : get_or c.args.parents.now c.args.p.0 0 < variable_rows = parent_inside c.requires.roots.1.growing c.args.p.0 in
    omega (arith, parent_row)

pub bounds-depths-up : goal.bounds-depths-up
bounds-depths-up c =
    let parent_row : get_or c.args.parents.now c.args.p.0 0 < variable_rows = parent_inside c.requires.roots.1.growing c.args.p.0 in
    omega (arith, parent_row, c.requires.roots.1.growing.sizes.0)

pub bounds-depths-q : goal.bounds-depths-q
bounds-depths-q c = (step_rows c.requires.roots.1).1.depth

pub bounds-parents-at-then-depths-up : goal.bounds-parents-at-then-depths-up
bounds-parents-at-then-depths-up c = (step_rows c.requires.roots.1).0.parent

pub returns-then-depths-up : goal.returns-then-depths-up
returns-then-depths-up c = record { stepped = λ classes r n. step_hang r n c.if-depths-up.true }

pub returns : goal.returns
returns c = record { stepped = λ classes r n. step_rise r c.if-depths-up.false }
