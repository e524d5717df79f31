-- The flag read is the mark, since none is set for 0.
use mathlib.Core.Path.{◌≡◌, refl, ◌∙◌}
use mathlib.Core.Bool.{Bool, true, false, cond}
use mir.Val.{bool_byte}
use Rattle.sets_occurrences.proofs.Gathering.{marked_flags}
use Rattle.sets_occurrences.proofs.counted.Goals as goal

-- a flag as a number
flag_number : (b : Bool) → bool_byte b ≡ cond b 1 0
flag_number false = refl
flag_number true = refl

pub returns : goal.returns
returns c = record { counted = rw (marked_flags c.args.universals.now c.requires.covered.1 c.args.variable.0) (c.from.ensures ∙ flag_number _) }
