-- Each arm is a case of side_by.
use mathlib.Core.Path.{sym, ap, ap₂, ◌∙◌}
use Rattle.forest_entries.specs.InnerFlags.{side_by}
use Rattle.forest_entries.proofs.Sides.{side_neither}
use Rattle.forest_entries.proofs.has_sign.Goals as goal

pub returns-in-Neither : goal.returns-in-Neither
unfolding side_by
returns-in-Neither c =
    let signs = c.args.signs in
    record { told = sym (ap (side_by signs) c.in-Neither.is ∙ side_neither signs) }

pub returns-in-Negative-signs : goal.returns-in-Negative-signs
unfolding side_by
returns-in-Negative-signs c = record { told = sym (ap₂ side_by c.in-Negative-signs.is c.in-Positive.is) }

pub returns-in-Either : goal.returns-in-Either
unfolding side_by
returns-in-Either c = record { told = sym (ap₂ side_by c.in-Either.is c.in-Positive.is) }

pub returns-in-Positive-signs : goal.returns-in-Positive-signs
unfolding side_by
returns-in-Positive-signs c = record { told = sym (ap₂ side_by c.in-Positive-signs.is c.in-Positive.is) }

pub returns-in-Positive-signs-2 : goal.returns-in-Positive-signs-2
unfolding side_by
returns-in-Positive-signs-2 c = record { told = sym (ap₂ side_by c.in-Positive-signs-2.is c.in-Negative.is) }

pub returns-in-Either-signs : goal.returns-in-Either-signs
unfolding side_by
returns-in-Either-signs c = record { told = sym (ap₂ side_by c.in-Either-signs.is c.in-Negative.is) }

pub returns-in-Negative-signs-2 : goal.returns-in-Negative-signs-2
unfolding side_by
returns-in-Negative-signs-2 c = record { told = sym (ap₂ side_by c.in-Negative-signs-2.is c.in-Negative.is) }
