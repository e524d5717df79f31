-- The test is the condition that the promise names.
use mathlib.Core.Path.{sym, ap}
use mathlib.Core.Bool.{cond}
use borrow.Author.Tests.{eq-eqb, ne_eqb}
use Rattle.sets_occurrences.proofs.begun.Goals as goal

pub returns-then-variable-eq0 : goal.returns-then-variable-eq0
returns-then-variable-eq0 c =
    let a = c.args in
    record { begun = sym (ap (λ b. cond b a.next a.start) (eq-eqb a.variable.0 0 c.if-variable-eq0.true)) }

pub returns-else-variable-eq0 : goal.returns-else-variable-eq0
returns-else-variable-eq0 c =
    let a = c.args in
    record { begun = sym (ap (λ b. cond b a.next a.start) (ne_eqb a.variable.0 0 c.if-variable-eq0.false)) }
