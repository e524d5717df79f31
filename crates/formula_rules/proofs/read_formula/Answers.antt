-- The prefix is read, and then the clauses are judged: what each refuses is the first cause of the whole order.
use Rattle.std.specs.Prelude.{Err}
use Rattle.terms.proofs.Verdicts.{handed_on}
use Rattle.formula.specs.Lent.{formula_of}
use Rattle.formula_rules.proofs.Reading.{prefix_refused, judged_behind, formula_read}
use Rattle.formula_rules.proofs.read_formula.Goals as goal

pub returns-in_err-count : goal.returns-in_err-count
returns-in_err-count c =
    let a = c.args in
    rw (handed_on c.from_residual.result c.from_residual.ensures.1)
    record { reads = prefix_refused a.rule (formula_of a.n a.prefix.now a.clauses.now) a.joined.now c.in_err-count.field-0.0 c.in_err-count.ensures.reads }

pub returns-in_err-check_clauses : goal.returns-in_err-check_clauses
returns-in_err-check_clauses c =
    let a = c.args in
    rw (handed_on c.from_residual-in_err-check_clauses.result c.from_residual-in_err-check_clauses.ensures.1)
    record {
      reads = judged_behind a.rule (formula_of a.n a.prefix.now a.clauses.now) _ c.in_ok-count.ensures.reads
          (Err c.in_err-check_clauses.field-0.0) c.in_err-check_clauses.ensures.judged;
    }

pub returns : goal.returns
returns c =
    let a = c.args in
    record { reads = formula_read a.rule (formula_of a.n a.prefix.now a.clauses.now) _ c.in_ok-count.ensures.reads c.in_ok-check_clauses.ensures.judged }
