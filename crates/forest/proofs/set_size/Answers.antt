-- The formula is judged by the rule first; the size by the prefix as the rule reads it stands behind that in the order.
use Rattle.terms.proofs.Verdicts.{handed_on}
use Rattle.terms.specs.Answers.{AnsweredNumber}
use Rattle.terms.proofs.Answers.{carry-numbered}
use Rattle.formula.specs.Lent.{formula_of}
use Rattle.formula_rules.specs.Rules.{check_order, read_as}
use Rattle.formula_rules.proofs.Reading.{refused_read, sound_read, more_read, behind_read}
use Rattle.forest_tables.specs.Lent.{rows}
use Rattle.forest.specs.InnerOrders.{behind_check}
use Rattle.forest.specs.Answers.{SizeBy}
use Rattle.forest.proofs.set_size.Goals as goal

pub sound_size-requires : goal.sound_size-requires
sound_size-requires c =
    let a = c.args in
    let order = check_order a.rule (formula_of a.n a.prefix.now a.clauses.now) in
    record {
      sound = (
        sound_read order _ a.rule a.n a.prefix.now c.in_ok-read.was c.take_formula.ensures.takes,
        more_read order _ a.rule a.n a.prefix.now c.in_ok-read.was c.take_formula.ensures.takes,
      );
    }

pub returns-in_err-read : goal.returns-in_err-read
returns-in_err-read c =
    let a = c.args in
    let f = formula_of a.n a.prefix.now a.clauses.now in
    let later = behind_check a.n (read_as a.rule a.prefix.now) (rows a.classes.now a.parents.now a.counts.now) a.x.0 in
    rw (handed_on c.from_residual.result c.from_residual.ensures.1)
    record {
      sized = (
        refused_read (check_order a.rule f) _ a.rule a.n a.prefix.now later c.in_err-read.was c.take_formula.ensures.takes,
        tt,
      );
    }

pub returns : goal.returns
returns c =
    let a = c.args in
    let f = formula_of a.n a.prefix.now a.clauses.now in
    let lent = rows a.classes.now a.parents.now a.counts.now in
    let answer = c.sound_size.result in
    record {
      sized = behind_read (check_order a.rule f) _ a.rule a.n a.prefix.now c.in_ok-read.was c.take_formula.ensures.takes
          (λ order read. AnsweredNumber order (SizeBy a.scheme (formula_of a.n read a.clauses.now) lent a.x.0) answer)
          (λ order order' read. carry-numbered (SizeBy a.scheme (formula_of a.n read a.clauses.now) lent a.x.0) answer order order')
          (λ read. behind_check a.n read lent a.x.0) c.sound_size.ensures.sized;
    }
