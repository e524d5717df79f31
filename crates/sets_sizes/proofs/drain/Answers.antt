-- A flag that is set stands within the table: it is cleared, and its row is read.
use mathlib.Core.Path.{refl, sym, ap, ◌∙◌}
use Rattle.terms.specs.InnerPairs.{high_of}
use Rattle.sets_sizes.specs.InnerSizes.{flagged, bare}
use Rattle.sets_sizes.proofs.drain.Goals as goal

pub returns-then-flag_at : goal.returns-then-flag_at
returns-then-flag_at c = record { drained = flagged (sym c.flag_at.ensures.read ∙ c.if-flag_at.true) refl (c.unpack.ensures.both.1 ∙ ap high_of c.row_at.ensures.read) }

pub returns : goal.returns
returns c = record { drained = bare (sym c.flag_at.ensures.read ∙ c.if-flag_at.false) refl refl }
