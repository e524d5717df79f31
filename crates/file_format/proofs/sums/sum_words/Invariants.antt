-- The sum so far is that of the words that are passed, where it is let wrap.
use Rattle.std.proofs.Common.{◌≡◌, ◌%◌, take}
use Rattle.std.specs.Int.{from_le_bytes, w16}
use Rattle.std.specs.List.{sum_by}
use Rattle.file_format.proofs.sums.sum_words.Given as goal

abbrev pub invariant-loop-word : goal.invariant-loop-word
invariant-loop-word l = l.sum ≡ sum_by (from_le_bytes w16) (take l.word-index l.words) % 65536
