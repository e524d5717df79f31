-- The literal is read back from its bits, and its variable is its magnitude.
use Prim.Native.Nat.{ℕ}
use mathlib.Core.Path.{ap, ◌∙◌}
use lib.Dec.{eqb}
use lib.IntN.{nat_abs}
use mir.Facts.{to_z-of_z}
use Rattle.text_write.proofs.writing.closes.Goals as goal

pub returns : goal.returns
returns c = record { told = ap (λ (v : ℕ). eqb v 0) (c.variable-variable.ensures.own ∙ ap nat_abs (c.new.ensures.holds ∙ to_z-of_z c.ranges.literal)) }
