-- Both halves are tested: the stamp in the table, and deepness by the level table.
use mathlib.Core.Path.{sym, ◌∙◌}
use Rattle.forest_tables.proofs.Readings.{told_both}
use Rattle.path_check.proofs.walk.is_met.Goals as goal

pub returns : goal.returns
returns c = record { told = told_both c.is_deeper.result (λ d. (d, sym c.stamp_at.ensures.own ∙ c.if-stamp_at-stamp.false)) (λ p. p.0) c.is_deeper.ensures.told }
