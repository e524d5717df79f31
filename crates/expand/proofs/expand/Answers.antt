-- The formula is judged by the rule; what is expanded by the prefix as the rule reads it stands behind that in the order.
use Rattle.std.proofs.Common.{ℕ, List}
use Rattle.formula.specs.Lent.{formula_of}
use Rattle.formula_rules.specs.Rules.{check_order}
use Rattle.formula_rules.proofs.Reading.{behind_read}
use Rattle.expand.specs.Promise.{result_tables, ExpandsBy}
use Rattle.expand.specs.InnerOrders.{behind_expand}
use Rattle.expand.proofs.Outcome.{carry_expands}
use Rattle.expand.proofs.expand.Goals as goal

pub returns : goal.returns
returns c =
    let a = c.args in
    let order = check_order a.rule (formula_of a.n a.prefix.now a.clauses.now) in
    let done = c.sound_expand in
    let out = result_tables a.out_prefix.now a.out_clauses.now in
    let out' = result_tables done.new.out_prefix done.new.out_clauses in
    let later = λ (read : List ℕ). behind_expand (formula_of a.n read a.clauses.now) a.x.0 out in
    record {
      expanded = behind_read order _ a.rule a.n a.prefix.now c.in_ok-read.was c.take_formula.ensures.takes
          (λ order read. ExpandsBy order (formula_of a.n read a.clauses.now) a.x.0 out out' done.result)
          (λ order order' read. carry_expands (formula_of a.n read a.clauses.now) a.x.0 out out' done.result order order') later done.ensures.expanded;
    }
