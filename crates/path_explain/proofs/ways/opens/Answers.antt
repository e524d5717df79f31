-- A literal of another variable is none of x, and one of x is told by its sign.
use mathlib.Core.Path.{◌≡◌, sym, ◌∙◌}
use mathlib.Core.Logic.{◌≢◌}
use Rattle.std.proofs.Common.{rules}
use Rattle.path_explain.proofs.Openings.{opens_variable, opens_told}
use Rattle.path_explain.proofs.ways.opens.Goals as goal

pub returns-then-ne : goal.returns-then-ne
returns-then-ne c =
    let other : c.variable.result.0 ≢ c.args.x.0 = search rules in
    record { told = λ o. other (c.variable.ensures.own ∙ opens_variable c.args.signs c.args.x.0 c.args.literal.0 o) }

pub returns : goal.returns
returns c =
    let own : c.variable.result.0 ≡ c.args.x.0 = search rules in
    record {
      told = opens_told c.args.signs c.side_of.result c.args.x.0 c.args.literal.0 c.requires.named (sym c.variable.ensures.own ∙ own)
          c.side_of.ensures.sided c.has_sign.result c.has_sign.ensures.told;
    }
