-- The literal is read back from its bits; a negative one is the negation of its variable, any other its variable.
use mir.Syntax.{w32}
use mir.Facts.{to_z-of_z}
use Rattle.std.proofs.Common.{rules}
use Rattle.forest_entries.proofs.Sides.{negative_sign, positive_sign}
use Rattle.forest_entries.proofs.side_of.Goals as goal

pub returns-then-literal-lt0 : goal.returns-then-literal-lt0
returns-then-literal-lt0 c = record { sided = negative_sign (to_z-of_z {w = w32} {z = c.args.literal.0} (search rules)) c.if-literal-lt0.true }

pub returns : goal.returns
returns c = record { sided = positive_sign (to_z-of_z {w = w32} {z = c.args.literal.0} (search rules)) c.if-literal-lt0.false }
