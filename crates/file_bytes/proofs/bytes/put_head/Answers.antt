-- The length in four bytes and the kind in two, one run behind the other.
use Rattle.std.proofs.Common.{arith}
use Rattle.text_write.proofs.Stores.{wrote_more}
use Rattle.file_bytes.proofs.Sizes.{number_end}
use Rattle.file_bytes.proofs.bytes.put_head.Goals as goal

pub put_number-requires : goal.put_number-requires
put_number-requires c = record { near = omega (arith, number_end 4 c.args.head.size c.put_number-next.ensures.wrote, c.requires.near) }

pub returns : goal.returns
returns c = record { wrote = wrote_more c.put_number-next.ensures.wrote c.put_number.ensures.wrote }
