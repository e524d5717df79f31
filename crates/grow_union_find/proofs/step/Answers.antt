-- Both roots have depths to compare, and each arm's call promises the step.
use Rattle.grow_union_find.proofs.Steps.{step_rows}
use Rattle.grow_union_find.proofs.step.Goals as goal

pub bounds-depths-p : goal.bounds-depths-p
bounds-depths-p c = (step_rows c.requires.roots).0.depth

pub bounds-depths-q : goal.bounds-depths-q
bounds-depths-q c = (step_rows c.requires.roots).1.depth

pub returns-then-depths-p : goal.returns-then-depths-p
returns-then-depths-p c = record { stepped = c.unite.ensures.stepped _ c.requires.roots c.if-depths-p.true }

pub returns : goal.returns
returns c = record { stepped = c.hang.ensures.stepped _ c.requires.roots c.if-depths-p.false }
