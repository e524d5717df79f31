-- A line that added nothing to the prefix table is not late; one that did is, if a list line has stood (late_is).
use Rattle.dqbf_text.proofs.Faults.{late_is}
use Rattle.dqbf_text.proofs.lines.is_late.Goals as goal

pub returns-then-before-after : goal.returns-then-before-after
returns-then-before-after c = record { told = λ e. c.if-before-after.true }

pub returns : goal.returns
returns c =
    let a = c.args in
    record { told = late_is a.listed a.before a.after c.if-before-after.false }
