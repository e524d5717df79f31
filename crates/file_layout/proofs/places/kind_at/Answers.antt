-- The kind stands in the last two bytes of the head, as the definition has it.
use Rattle.file_layout.proofs.Heads.{kind_read}
use Rattle.file_layout.proofs.places.kind_at.Goals as goal

pub returns : goal.returns
returns c = record { read = kind_read c.args.file.now c.args.at c.two_at.ensures.read.0 }
