-- The four ways out are the cases of `row`: no variable, one over n, one within, and one whose row is past the end.
use mathlib.Core.Path.{◌∙◌, sym}
use lib.ListN.{get_or-eq_default}
use Rattle.forest_tables.proofs.Readings.{row_none, row_over, row_at}
use Rattle.forest_tables.proofs.rows.row_of.Goals as goal

pub returns-then-number-eq0 : goal.returns-then-number-eq0
returns-then-number-eq0 c =
    let a = c.args in
    record { read = c.new.ensures.holds ∙ sym (row_none a.n a.rows.now a.v.0 c.if-number-eq0.true) }

pub returns-then-n-number : goal.returns-then-n-number
returns-then-n-number c =
    let a = c.args in
    record { read = c.new-then-n-number.ensures.holds ∙ sym (row_over a.n a.rows.now a.v.0 c.if-n-number.true) }

pub returns-then-at-rows : goal.returns-then-at-rows
returns-then-at-rows c =
    let a = c.args in
    record { read = c.new-then-at-rows.ensures.holds ∙ sym (row_at a.n a.rows.now a.v.0 c.if-number-eq0.false c.if-n-number.false) }

pub returns-else-at-rows : goal.returns-else-at-rows
returns-else-at-rows c =
    let a = c.args in
    let is = row_at a.n a.rows.now a.v.0 c.if-number-eq0.false c.if-n-number.false in
    record { read = c.new-else-at-rows.ensures.holds ∙ sym (get_or-eq_default a.rows.now 0 c.if-at-rows.false) ∙ sym is }
