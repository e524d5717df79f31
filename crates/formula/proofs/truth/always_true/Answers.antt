use Rattle.std.proofs.Common.{rules, arith, sym, ap, ◌≡◌, ◌∙◌}
use Rattle.terms.specs.InnerLiteralRows.{row_of, other_row}
use Rattle.formula.specs.Tables.{literal_at}
use Rattle.formula.proofs.Signs.{row_below, other_below, passed_found, passed_more, passed_all}
use Rattle.formula.proofs.truth.always_true.Goals as goal

pub offset_bounds-seen-other_row : goal.offset_bounds-seen-other_row
offset_bounds-seen-other_row c =
    let low = other_below c.args.clause.now c.requires.rows c.loop-entry-test.true (search rules) c.other_row.ensures.other in
    record { fits = omega arith }

pub bounds-seen-other_row : goal.bounds-seen-other_row
bounds-seen-other_row c =
    let low = other_below c.args.clause.now c.requires.rows c.loop-entry-test.true (search rules) c.other_row.ensures.other in
    omega (arith, c.loop-entry.invariant.stamps.size)

pub returns-then-seen-other_row-clause-truth : goal.returns-then-seen-other_row-clause-truth
returns-then-seen-other_row-clause-truth c =
    let is : c.new-literal.result.0 ≡ literal_at c.args.clause.now c.loop-entry.entry-index = search rules in
    sym (passed_found c.requires.rows c.loop-entry.invariant c.loop-entry-test.true
    (rw (← ap other_row is, ← c.other_row.ensures.other) c.if-seen-other_row.true))

pub offset_bounds-seen-row : goal.offset_bounds-seen-row
offset_bounds-seen-row c =
    let low = row_below c.args.clause.now c.requires.rows c.loop-entry-test.true (search rules) c.row.ensures.own in
    record { fits = omega arith }

pub bounds-seen-row : goal.bounds-seen-row
bounds-seen-row c =
    let low = row_below c.args.clause.now c.requires.rows c.loop-entry-test.true (search rules) c.row.ensures.own in
    omega (arith, c.loop-entry.invariant.stamps.size)

pub loop-entry-preserved : goal.loop-entry-preserved
loop-entry-preserved c =
    let is : c.new-literal.result.0 ≡ literal_at c.args.clause.now c.loop-entry.entry-index = search rules in
    rw (c.row.ensures.own ∙ ap row_of is)
    (passed_more c.requires.rows c.loop-entry.invariant c.loop-entry-test.true
    (rw (← ap other_row is, ← c.other_row.ensures.other) c.if-seen-other_row.false))

pub returns-clause-truth : goal.returns-clause-truth
returns-clause-truth c = sym (passed_all c.loop-entry.invariant c.loop-entry-test.false)
