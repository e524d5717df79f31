-- The refusals of the prefix come first, and then those of the clauses.
use mathlib.Core.List.{[], ◌∷◌}
use lib.ListN.{length}
use Rattle.terms.specs.Says.{said}
use Rattle.terms.proofs.Verdicts.{first_of_more, judges_later, handed_on}
use Rattle.formula.specs.Causes.{ClauseCause}
use Rattle.formula_rules.specs.Rules.{ruled_prefix}
use Rattle.formula_rules.proofs.check.Goals as goal

pub returns-in_err-rule_verdict : goal.returns-in_err-rule_verdict
returns-in_err-rule_verdict c =
    let a = c.args in
    rw (handed_on c.from_residual.result c.from_residual.ensures.1)
    record {
      judged = first_of_more (ruled_prefix a.rule a.n a.prefix.now (length a.clauses.now)) (ClauseCause a.n a.clauses.now ∷ []) _ _
          c.in_err-rule_verdict.ensures.judged;
    }

pub returns : goal.returns
returns c =
    let a = c.args in
    record {
      judged = judges_later (ruled_prefix a.rule a.n a.prefix.now (length a.clauses.now)) (ClauseCause a.n a.clauses.now ∷ [])
          (said c.check_clauses.result) c.in_ok-rule_verdict.ensures.judged c.check_clauses.ensures.judged;
    }
