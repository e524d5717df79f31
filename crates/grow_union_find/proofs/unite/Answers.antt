-- Whichever root is the lower, the other is pointed to it: what `point` stores is the step by the law for two roots of one block, as they stand or
-- turned round.
use Rattle.grow_union_find.proofs.Steps.{step_rows, step_unite, step_unite_back, stepped_is}
use Rattle.grow_union_find.proofs.unite.Goals as goal

pub point-requires : goal.point-requires
point-requires c =
    let row = (step_rows c.requires.roots.1).1 in
    record { inside = (row.class, row.parent) }

pub returns-then-p-q : goal.returns-then-p-q
returns-then-p-q c =
    let u = c.point.ensures in
    record { stepped = λ depths r e. stepped_is u.pointed.0 u.pointed.1 u.pointed.2 u.pointed.3 (step_unite r e c.if-p-q.true) }

pub point-requires-2 : goal.point-requires-2
point-requires-2 c =
    let row = (step_rows c.requires.roots.1).0 in
    record { inside = (row.class, row.parent) }

pub returns : goal.returns
returns c =
    let u = c.point-2.ensures in
    record { stepped = λ depths r e. stepped_is u.pointed.0 u.pointed.1 u.pointed.2 u.pointed.3 (step_unite_back r e c.if-p-q.false) }
