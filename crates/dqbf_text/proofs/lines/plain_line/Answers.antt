-- What QDIMACS makes of the line is what is said here, but for a quantifier line after a list line, which is a fault (fault_late).
use mathlib.Core.Path.{subst}
use Rattle.std.proofs.lemmas.Result.{err_from_is_err_and}
use Rattle.dqbf_text.specs.InnerSteps.{LateIs}
use Rattle.dqbf_text.proofs.Faults.{fault_plain, fault_late, went_plain}
use Rattle.dqbf_text.proofs.lines.plain_line.Goals as goal

pub returns-in_err-step : goal.returns-in_err-step
returns-in_err-step c =
    let handed = err_from_is_err_and c.from_residual.result c.from_residual.ensures.1 in
    rw (handed.1, handed.2) (record { steps = λ lists. fault_plain c.args.listed c.requires.within.3 c.in_err-step.ensures.steps })

pub returns-then-is_late : goal.returns-then-is_late
returns-then-is_late c =
    let late = subst (LateIs c.args.listed c.args.entries _) c.if-is_late.true c.is_late.ensures.told in
    record { steps = λ lists. fault_late c.in_ok-step.ensures.steps c.args.listed c.requires.within.3 late }

pub returns : goal.returns
returns c =
    let a = c.args in
    let kept = subst (LateIs a.listed a.entries _) c.if-is_late.false c.is_late.ensures.told in
    record { steps = λ lists. went_plain c.in_ok-step.ensures.steps a.listed kept a.rows c.requires.within.1.2 lists }
