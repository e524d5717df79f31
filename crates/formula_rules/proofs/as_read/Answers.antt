-- Under rule 1 the rule reads the lent prefix; under rule 2 it reads the front of the table, by `AtHand`.
use mathlib.Core.Path.{sym}
use Rattle.formula_rules.proofs.Orders.{lent_one}
use Rattle.formula_rules.proofs.Reading.{front_read}
use Rattle.formula_rules.proofs.as_read.Goals as goal

pub returns-then-rule-eq1 : goal.returns-then-rule-eq1
returns-then-rule-eq1 c =
    let a = c.args in
    record { read = sym (lent_one a.rule a.lent.now c.if-rule-eq1.true) }

pub slice_bounds-result-end : goal.slice_bounds-result-end
slice_bounds-result-end c =
    let a = c.args in
    (front_read a.rule a.lent.now a.joined.now a.count c.if-rule-eq1.false c.requires.hand).0

pub returns : goal.returns
returns c =
    let a = c.args in
    record { read = (front_read a.rule a.lent.now a.joined.now a.count c.if-rule-eq1.false c.requires.hand).1 }
