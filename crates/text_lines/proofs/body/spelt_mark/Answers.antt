-- The word `e` was looked for, and then `a`: what was found of either is what is said.
use mathlib.Core.Path.{refl}
use Rattle.text_lines.specs.InnerSteps.{e_mark, a_mark}
use Rattle.text_lines.proofs.body.spelt_mark.Goals as goal

pub returns-in-Some : goal.returns-in-Some
returns-in-Some c = record { marked = e_mark refl c.in-Some.ensures.looked }

pub returns-in_err-next : goal.returns-in_err-next
returns-in_err-next c = rw c.from_residual.ensures (record { marked = (c.in_default.ensures.looked, c.in_err-next.ensures.looked) })

pub returns : goal.returns
returns c = record { marked = a_mark refl c.in_ok-next.ensures.looked }
