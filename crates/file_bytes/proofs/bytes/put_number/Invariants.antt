-- The bytes that are passed are stored.
use Rattle.std.proofs.Common.{take}
use Rattle.text_write.specs.InnerBytes.{Wrote}
use Rattle.file_bytes.proofs.bytes.put_number.Given as goal

abbrev pub invariant-loop-byte : goal.invariant-loop-byte
invariant-loop-byte l = Wrote (take l.byte-index l.byte-items) l.initial.out l.out l.at l.next
