-- By the stage: before the problem line what `opening_at` found is a fault or where the line leads to (Bodies), and after it `body_at` says so itself.
use Prim.Native.Nat.{ℕ}
use mathlib.Core.Path.{sym, subst}
use mathlib.Core.List.{List}
use lib.IntN.{ℤ}
use Rattle.text_lines.specs.declared.Stage.{Stage}
use Rattle.std.specs.Prelude.{Some}
use Rattle.text_lines.specs.declared.Opened.{Opened}
use Rattle.text_lines.specs.InnerSteps.{OpenedIs, StepIs, Sound}
use Rattle.text_lines.proofs.Bodies.{fault_opening, went_comment, went_problem}
use Rattle.text_qdimacs.proofs.scanning.line_at.Goals as goal

pub body_at-requires : goal.body_at-requires
body_at-requires c =
    let pre = c.requires in
    record { within = (pre.within.0, pre.within.1, pre.within.2, subst Sound c.in-Body.is pre.within.3) }

pub returns-in-None : goal.returns-in-None
returns-in-None c = record { steps = fault_opening c.in-Opening.is c.requires.within.0 c.in-None.ensures.opened }

pub returns-in-Some-Comment : goal.returns-in-Some-Comment
returns-in-Some-Comment c =
    let a = c.args in
    let w = c.in-Some-Comment in
    let comment = subst (λ (o : Opened). OpenedIs a.text.now a.at (Some o)) w.field-0-is w.ensures.opened in
    record { steps = went_comment c.requires.within.1 c.requires.within.2 c.in-Opening.is comment }

pub returns-in-Some-Problem : goal.returns-in-Some-Problem
returns-in-Some-Problem c =
    let a = c.args in
    let w = c.in-Some-Problem in
    let problem = subst (λ (o : Opened). OpenedIs a.text.now a.at (Some o)) w.field-0-is w.ensures.opened in
    record { steps = went_problem c.requires.within.1 c.requires.within.2 c.in-Opening.is problem }

pub returns-in-Body : goal.returns-in-Body
returns-in-Body c =
    let a = c.args in
    let o = c.body_at in
    let after : List ℕ × List ℤ = (o.new.prefix, o.new.clauses) in
    let Is : Stage → Type 0 = λ s. StepIs s a.text.now a.at a.entries a.literals (a.prefix.now, a.clauses.now) after o.result in
    record { steps = subst Is (sym c.in-Body.is) o.ensures.steps }
