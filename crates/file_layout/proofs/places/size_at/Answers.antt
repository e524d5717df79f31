-- The length stands in the first four bytes of the head, as the definition has it.
use Rattle.file_layout.proofs.Heads.{size_read}
use Rattle.file_layout.proofs.places.size_at.Goals as goal

pub returns : goal.returns
returns c = record { read = size_read c.args.file.now c.args.at c.four_at.ensures.read }
