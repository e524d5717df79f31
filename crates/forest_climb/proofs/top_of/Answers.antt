-- The three answers are the three cases of top_by: no class, no top above the class, and the top above.
use mathlib.Core.Path.{ap, ◌∙◌}
use Rattle.forest_theory.specs.Tables.{row}
use Rattle.forest_climb.proofs.Tops.{top_by_none, top_by_class, top_by_above}
use Rattle.forest_climb.proofs.top_of.Goals as goal

pub returns-then-class-eq0 : goal.returns-then-class-eq0
returns-then-class-eq0 c =
    let a = c.args in
    let class = row a.n a.classes.now a.v.0 in
    record { own = top_by_none (row a.n a.tops.now (row a.n a.parents.now class)) c.row_of-class.ensures.read c.if-class-eq0.true }

pub returns-then-above-eq0 : goal.returns-then-above-eq0
returns-then-above-eq0 c =
    let a = c.args in
    let above = c.row_of-above.ensures.read
    ∙ ap (row a.n a.tops.now) (c.row_of.ensures.read ∙ ap (row a.n a.parents.now) c.row_of-class.ensures.read) in
    record { own = top_by_class c.row_of-class.ensures.read c.if-class-eq0.false above c.if-above-eq0.true }

pub returns-else-above-eq0 : goal.returns-else-above-eq0
returns-else-above-eq0 c =
    let a = c.args in
    let above = c.row_of-above.ensures.read
    ∙ ap (row a.n a.tops.now) (c.row_of.ensures.read ∙ ap (row a.n a.parents.now) c.row_of-class.ensures.read) in
    record { own = top_by_above c.row_of-class.ensures.read c.if-class-eq0.false above c.if-above-eq0.false }
