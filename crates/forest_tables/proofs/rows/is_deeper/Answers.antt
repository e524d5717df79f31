-- The two tests are those of the definition, each by the row of the level table.
use mathlib.Core.Path.{sym, ◌∙◌}
use native.Mathlib.Omega.{arith}
use Rattle.terms.proofs.Common.{clash}
use Rattle.forest_tables.proofs.rows.is_deeper.Goals as goal

pub returns-then-not-existential_at : goal.returns-then-not-existential_at
returns-then-not-existential_at c = record { told = λ d. clash (c.existential_at.ensures.told ∙ d.existential) (c.if-not-existential_at.true) }

pub returns : goal.returns
returns c =
    let own = c.level_at.ensures in
    let floor = c.level_at-2.ensures in
    record { told = record { existential = sym c.existential_at.ensures.told ∙ c.if-not-existential_at.false; deep = omega (arith, c.if-level_at.false) } }
