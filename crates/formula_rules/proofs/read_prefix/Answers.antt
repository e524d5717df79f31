-- Where the rule accepts the prefix, the lent one is sound under rule 1, and under rule 2 the joined one that is written.
use mathlib.Core.Path.{◌∙◌}
use native.Mathlib.Omega.{arith}
use Rattle.terms.proofs.Verdicts.{handed_on}
use Rattle.formula_rules.proofs.Short.{joined_short}
use Rattle.formula_rules.proofs.Orders.{accepted_two, lent_read, joined_read}
use Rattle.formula_rules.proofs.read_prefix.Goals as goal

pub returns-then-rule-eq1 : goal.returns-then-rule-eq1
returns-then-rule-eq1 c =
    let a = c.args in
    record { reads = lent_read a.rule a.n a.prefix.now a.entries a.joined.now c.if-rule-eq1.true c.in_ok-rule_verdict.ensures.judged }

pub lay_out-count-requires : goal.lay_out-count-requires
lay_out-count-requires c =
    let a = c.args in
    let (is, few, short, small, faultless) = accepted_two a.rule a.n a.prefix.now a.entries c.if-rule-eq1.false c.in_ok-rule_verdict.ensures.judged in
    record {
      accepted = (a.n, faultless);
      room = omega (arith, joined_short few faultless, c.requires.room);
    }

pub overflow_cast-result : goal.overflow_cast-result
overflow_cast-result c =
    let room = c.lay_out-count.ensures.within in
    omega (arith, c.lay_out-count.auto.out, c.requires.room)

pub returns-in_err-rule_verdict : goal.returns-in_err-rule_verdict
returns-in_err-rule_verdict c =
    rw (handed_on c.from_residual.result c.from_residual.ensures.1) record { reads = c.in_err-rule_verdict.ensures.judged }

pub returns : goal.returns
returns c =
    let a = c.args in
    let out = c.lay_out-count in
    record {
      reads = joined_read a.rule a.n a.prefix.now a.entries _ out.result c.if-rule-eq1.false c.in_ok-rule_verdict.ensures.judged
          (out.auto.out ∙ c.requires.room) out.ensures.within out.ensures.written;
    }
