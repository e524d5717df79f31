-- It begins behind the second record, which in a laid file is near enough.
use mathlib.Core.Path.{sym, ap, ◌∙◌}
use native.Mathlib.Omega.{arith}
use Rattle.file_format.specs.Places.{next_at}
use Rattle.file_layout.proofs.Spans.{third_is, laid_near}
use Rattle.file_layout.proofs.places.third_at.Goals as goal

pub next_at-requires : goal.next_at-requires
next_at-requires c = record { near = omega (arith, c.second_at-second.ensures.found, (laid_near c.args.file.now c.requires.laid).0) }

pub returns : goal.returns
returns c =
    let file = c.args.file.now in
    record { found = c.next_at.ensures.found ∙ ap (next_at file) c.second_at-second.ensures.found ∙ sym (third_is file) }
