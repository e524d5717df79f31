-- It begins behind the third record, which in a laid file is near enough.
use mathlib.Core.Path.{sym, ap, ◌∙◌}
use native.Mathlib.Omega.{arith}
use Rattle.file_format.specs.Places.{next_at}
use Rattle.file_layout.proofs.Spans.{fourth_is, laid_near}
use Rattle.file_layout.proofs.places.fourth_at.Goals as goal

pub next_at-requires : goal.next_at-requires
next_at-requires c = record { near = omega (arith, c.third_at-third.ensures.found, (laid_near c.args.file.now c.requires.laid).1) }

pub returns : goal.returns
returns c =
    let file = c.args.file.now in
    record { found = c.next_at.ensures.found ∙ ap (next_at file) c.third_at-third.ensures.found ∙ sym (fourth_is file) }
