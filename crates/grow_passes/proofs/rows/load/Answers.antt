use mathlib.Core.Path.{sym, ◌∙◌}
use native.Mathlib.Omega.{arith}
use Rattle.forest_theory.proofs.Rows.{row_out}
use Rattle.grow_passes.proofs.rows.load.Goals as goal

pub loop-v-init : goal.loop-v-init
loop-v-init c = record { rows = λ u l. absurd (omega arith); past = λ u h. c.requires.table.past u h ∙ sym (row_out _ u _ (λ _. h)) }
