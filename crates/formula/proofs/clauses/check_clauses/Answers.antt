-- Where some variable is over n, 10 at the first one comes first; where none is, the last entry tells whether the table ends inside a clause.
use mathlib.Core.Path.{sym, ◌∙◌}
use mathlib.Core.Logic.{inl, inr}
use Rattle.formula.proofs.Literals.{fault_at_literal, none_over, fault_at_end}
use Rattle.formula.proofs.clauses.check_clauses.Goals as goal

pub returns-then-at-end : goal.returns-then-at-end
returns-then-at-end c = record { judged = inl (fault_at_literal c.first_over-at.ensures.first c.if-at-end.true) }

pub returns-then-end-eq0 : goal.returns-then-end-eq0
returns-then-end-eq0 c = record { judged = (none_over c.first_over-at.ensures.first c.if-at-end.false (inl c.if-end-eq0.true), tt) }

pub returns-then-last-eq0 : goal.returns-then-last-eq0
returns-then-last-eq0 c =
    let last = sym c.variable_at-last.ensures.read ∙ c.if-last-eq0.true in
    record { judged = (none_over c.first_over-at.ensures.first c.if-at-end.false (inr last), tt) }

pub returns-else-last-eq0 : goal.returns-else-last-eq0
returns-else-last-eq0 c =
    record {
      judged = inl (fault_at_end c.first_over-at.ensures.first c.if-at-end.false c.if-end-eq0.false
          (λ z. c.if-last-eq0.false (c.variable_at-last.ensures.read ∙ z)));
    }
