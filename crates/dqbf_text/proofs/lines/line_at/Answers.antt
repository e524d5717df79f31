-- Without the letter the line is left to `plain_line`; with it, its numbers are a list, and the line is one (went_list), or it may not stand there
-- (fault_list).
use native.Mathlib.Omega.{arith}
use Rattle.dqbf_text.proofs.Faults.{fault_list, went_list}
use Rattle.dqbf_text.proofs.lines.line_at.Goals as goal

pub plain_line-requires : goal.plain_line-requires
plain_line-requires c =
    let pre = c.requires.within in
    record { within = (pre.0, pre.1, pre.2, c.in_default.ensures.marked) }

pub list_at-requires : goal.list_at-requires
list_at-requires c = record { behind = omega (arith, c.in-Some.ensures.marked.goes.on, c.requires.within.1.2) }

pub returns-in_default : goal.returns-in_default
returns-in_default c = record { steps = c.plain_line.ensures.steps c.args.lists.now }

pub returns-in_default-list_at : goal.returns-in_default-list_at
returns-in_default-list_at c =
    record { steps = fault_list c.requires.within.0 c.in-Some.ensures.marked c.in_default-list_at.ensures.stored }

pub returns : goal.returns
returns c =
    let a = c.args in
    record { steps = went_list a.prefix.now a.clauses.now c.requires.within.1 c.in-Some.ensures.marked c.in-Some-list_at.ensures.stored }
