-- A literal of another variable is not made true; one of x is by its sign.
use native.Mathlib.Omega.{arith}
use mathlib.Core.Path.{sym, ◌∙◌}
use borrow.Author.Tests.{eqb-true, eqb-false, not-true, not-false}
use mir.Syntax.{w32}
use mir.Facts.{to_z-of_z}
use Rattle.expand_clauses.proofs.Naming.{made_other, made_negative, made_positive}
use Rattle.expand_clauses.proofs.literals.makes_true.Goals as goal

pub returns-then-ne : goal.returns-then-ne
returns-then-ne c =
    let a = c.args in
    record { told = made_other a.value a.x.0 a.literal.0 (λ q. eqb-false _ _ (not-true _ (sym c.ne.ensures ∙ c.if-ne.true)) (c.variable.ensures.own ∙ q)) }

pub returns-then-literal-lt0 : goal.returns-then-literal-lt0
returns-then-literal-lt0 c =
    let a = c.args in
    let bits = to_z-of_z {w = w32} {z = a.literal.0} (record { sfits = omega arith }) in
    record { told = made_negative bits a.value a.x.0 c.if-literal-lt0.true (sym c.variable.ensures.own ∙ eqb-true _ _ (not-false _ (sym c.ne.ensures ∙ c.if-ne.false))) }

pub returns-else-literal-lt0 : goal.returns-else-literal-lt0
returns-else-literal-lt0 c =
    let a = c.args in
    let bits = to_z-of_z {w = w32} {z = a.literal.0} (record { sfits = omega arith }) in
    record { told = made_positive bits a.value a.x.0 c.if-literal-lt0.false (sym c.variable.ensures.own ∙ eqb-true _ _ (not-false _ (sym c.ne.ensures ∙ c.if-ne.false))) }
