-- Both roots are found in rows that stand for the same, so that joining them joins the pair (`at_roots`); then there is one root and nothing is left, or
-- one step joins two.
use Rattle.grow_union_find.proofs.Steps.{first_falling, second_falling, at_roots, advance_same, advance_roots, advance_step}
use Rattle.grow_union_find.proofs.advance.Goals as goal

pub root-p-requires : goal.root-p-requires
root-p-requires c =
    let p = c.requires in
    record { falling = first_falling p.rows p.pair.0 p.pair.1 }

pub root-q-requires : goal.root-q-requires
root-q-requires c =
    let p = c.requires in
    record { falling = second_falling p.rows p.pair.0 p.pair.1 c.root-p.auto.classes c.root-p.ensures.found }

pub returns-then-p-q : goal.returns-then-p-q
returns-then-p-q c =
    let p = c.requires in
    let one = c.root-p in
    let two = c.root-q in
    let both = at_roots p.rows p.pair.0 p.pair.1 one.new.classes two.new.classes one.auto.classes two.auto.classes one.ensures.found two.ensures.found in
    record { stepped = advance_same both c.if-p-q.true }

pub step-requires : goal.step-requires
step-requires c =
    let p = c.requires in
    let one = c.root-p in
    let two = c.root-q in
    let both = at_roots p.rows p.pair.0 p.pair.1 one.new.classes two.new.classes one.auto.classes two.auto.classes one.ensures.found two.ensures.found in
    record { roots = advance_roots both c.if-p-q.false }

pub returns : goal.returns
returns c =
    let p = c.requires in
    let one = c.root-p in
    let two = c.root-q in
    let both = at_roots p.rows p.pair.0 p.pair.1 one.new.classes two.new.classes one.auto.classes two.auto.classes one.ensures.found two.ensures.found in
    record { stepped = advance_step both c.step.ensures.stepped }
