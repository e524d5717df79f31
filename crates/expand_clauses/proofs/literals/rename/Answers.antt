-- A literal whose variable has no copy stays; any other has the name of the copy, by its sign. A copy's number is small enough for both.
use mathlib.Core.Path.{sym, ap, ◌∙◌}
use native.Mathlib.Omega.{arith}
use mir.Syntax.{w32}
use mir.Facts.{to_z-of_z}
use Rattle.expand_clauses.specs.InnerCopied.{tabled}
use Rattle.expand_clauses.proofs.Naming.{renamed_negative, renamed_positive, renamed_same}
use Rattle.expand_clauses.proofs.literals.rename.Goals as goal

pub returns-in_default : goal.returns-in_default
returns-in_default c =
    let a = c.args in
    record { renamed = renamed_same (tabled a.copies.now) a.literal.0 (ap (tabled a.copies.now) (sym c.variable.ensures.own) ∙ c.in_default.ensures.found) }

pub negation-requires : goal.negation-requires
negation-requires c = record { fits = omega (arith, c.in-Some.ensures.found.1, c.requires.few.most c.variable.result.0) }

pub literal-requires : goal.literal-requires
literal-requires c = record { fits = omega (arith, c.in-Some.ensures.found.1, c.requires.few.most c.variable.result.0) }

pub returns-then-literal-lt0 : goal.returns-then-literal-lt0
returns-then-literal-lt0 c =
    let a = c.args in
    let copy = tabled a.copies.now in
    let (some, is) = c.in-Some.ensures.found in
    let bits = to_z-of_z {w = w32} {z = a.literal.0} (record { sfits = omega arith }) in
    record { renamed = renamed_negative bits copy c.if-literal-lt0.true (is ∙ ap copy c.variable.ensures.own) (λ z. some (sym is ∙ z)) c.negation.ensures.negated }

pub returns-else-literal-lt0 : goal.returns-else-literal-lt0
returns-else-literal-lt0 c =
    let a = c.args in
    let copy = tabled a.copies.now in
    let (some, is) = c.in-Some.ensures.found in
    let bits = to_z-of_z {w = w32} {z = a.literal.0} (record { sfits = omega arith }) in
    record { renamed = renamed_positive bits copy c.if-literal-lt0.false (is ∙ ap copy c.variable.ensures.own) (λ z. some (sym is ∙ z)) c.literal.ensures.plain }
