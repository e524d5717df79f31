-- Behind the head, and behind as many bytes as it says.
use native.Mathlib.Omega.{arith}
use Rattle.file_layout.proofs.Heads.{next_read}
use Rattle.file_layout.proofs.places.next_at.Goals as goal

pub returns : goal.returns
returns c = record { found = omega (arith, next_read c.args.file.now c.args.at, c.size_at-size.ensures.read) }
