-- It begins behind the first record.
use mathlib.Core.Path.{sym, ◌∙◌}
use Rattle.file_layout.proofs.Spans.{second_is}
use Rattle.file_layout.proofs.places.second_at.Goals as goal

pub returns : goal.returns
returns c = record { found = c.next_at.ensures.found ∙ sym (second_is c.args.file.now) }
