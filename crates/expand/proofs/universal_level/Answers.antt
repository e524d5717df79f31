-- Both tables are those of the prefix, so that what stands in the rows of x is what the prefix says of it.
use mathlib.Core.Path.{◌≡◌, sym, ◌∙◌}
use mathlib.Core.Bool.{Bool}
use Rattle.forest_tables.specs.Formula.{universal}
use Rattle.forest_tables.proofs.Agreeing.{universal_agrees, level_agrees, universal_within}
use Rattle.expand.proofs.universal_level.Goals as goal
use Rattle.expand.proofs.universal_level.Goals.{After-universal_at}

-- what the table says of x is what the prefix says
told : (c : After-universal_at) {b : Bool} → c.universal_at.result ≡ b → universal c.args.n c.args.prefix.now c.args.x.0 ≡ b
told c is = sym (universal_agrees c.requires.sound c.fill_levels.ensures.levelled c.args.x.0) ∙ sym c.universal_at.ensures.told ∙ is

pub returns-then-not-universal_at : goal.returns-then-not-universal_at
returns-then-not-universal_at c = record { found = told (goal.at.returns-then-not-universal_at c).After-universal_at c.if-not-universal_at.true }

pub returns : goal.returns
returns c =
    let a = c.args in
    let known = told (goal.at.returns c).After-universal_at c.if-not-universal_at.false in
    let within = (universal_within a.n a.prefix.now a.x.0 known).1 in
    record { found = (known, c.level_at.ensures.read ∙ level_agrees c.requires.sound c.fill_levels.ensures.levelled a.x.0 within) }
