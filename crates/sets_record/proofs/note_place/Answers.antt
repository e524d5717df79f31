-- Past the end of the table a store changes nothing.
use mathlib.Core.Path.{sym}
use lib.Seq.{set_out}
use Rattle.sets_record.proofs.note_place.Goals as goal

pub returns-else-at-places : goal.returns-else-at-places
returns-else-at-places c = record { noted = sym (set_out c.args.places.now c.args.top.0 c.args.start c.if-at-places.false) }
