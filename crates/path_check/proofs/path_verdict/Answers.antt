-- The formula is judged by the rule; what a path is refused for by the prefix as the rule reads it stands behind that in the order.
use Prim.Native.Nat.{ℕ}
use mathlib.Core.List.{List}
use Rattle.terms.specs.Refusals.{Judged}
use Rattle.terms.proofs.Orders.{carry_judged}
use Rattle.terms.proofs.Verdicts.{handed_on}
use Rattle.formula.specs.Lent.{formula_of}
use Rattle.formula_rules.specs.Rules.{check_order, read_as}
use Rattle.formula_rules.proofs.Reading.{refused_read, sound_read, more_read, behind_read}
use Rattle.path_check.specs.InnerOrders.{pair_order}
use Rattle.path_check.proofs.path_verdict.Goals as goal

pub sound_path-requires : goal.sound_path-requires
sound_path-requires c =
    let a = c.args in
    let order = check_order a.rule (formula_of a.n a.prefix.now a.clauses.now) in
    record {
      sound = (
        sound_read order _ a.rule a.n a.prefix.now c.in_ok-read.was c.take_formula.ensures.takes,
        more_read order _ a.rule a.n a.prefix.now c.in_ok-read.was c.take_formula.ensures.takes,
      );
    }

pub returns-in_err-read : goal.returns-in_err-read
returns-in_err-read c =
    let a = c.args in
    let order = check_order a.rule (formula_of a.n a.prefix.now a.clauses.now) in
    rw (handed_on c.from_residual.result c.from_residual.ensures.1)
    record {
      judged = refused_read order _ a.rule a.n a.prefix.now
          (pair_order (formula_of a.n (read_as a.rule a.prefix.now) a.clauses.now) a.x.0 a.y.0 a.path.now) c.in_err-read.was c.take_formula.ensures.takes;
    }

pub returns : goal.returns
returns c =
    let a = c.args in
    let order = check_order a.rule (formula_of a.n a.prefix.now a.clauses.now) in
    let later = λ (read : List ℕ). pair_order (formula_of a.n read a.clauses.now) a.x.0 a.y.0 a.path.now in
    let verdict = c.sound_path.result in
    record {
      judged = behind_read order _ a.rule a.n a.prefix.now c.in_ok-read.was c.take_formula.ensures.takes
          (λ order read. Judged order verdict) (λ order order' read carries. carry_judged order order' carries verdict) later c.sound_path.ensures.judged;
    }
