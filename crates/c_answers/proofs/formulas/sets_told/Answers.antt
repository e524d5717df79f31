-- The number is chosen by the very flag that the code tests.
use mathlib.Core.Path.{sym, ap}
use mathlib.Core.Bool.{Bool, cond}
use Rattle.c_answers.specs.Codes.{tells_sets}
use Rattle.c_answers.proofs.formulas.sets_told.Goals as goal

pub returns-then-there : goal.returns-then-there
unfolding tells_sets
returns-then-there c = record { told = sym (ap (λ (b : Bool). cond b 1 0) c.if-there.true) }

pub returns-else-there : goal.returns-else-there
unfolding tells_sets
returns-else-there c = record { told = sym (ap (λ (b : Bool). cond b 1 0) c.if-there.false) }
