-- The parts of a record as they are written, which only proofs rest on.
use Rattle.std.specs.Prelude.{ℕ, ◌-◌, ◌%◌, List, ◌++◌}
use Rattle.file_format.specs.Numbers.{number_bytes, word_sum}
use Rattle.file_format.specs.Layout.{closing_kind}

-- the head of a record: its payload length and its kind
abbrev pub head_bytes : ℕ → ℕ → List ℕ
head_bytes size kind = number_bytes 4 size ++ number_bytes 2 kind

-- the word that closes the sum of what stands in front of the last record
unfoldable pub closing : List ℕ → ℕ
closing front = (65536 - word_sum (front ++ head_bytes 2 closing_kind) % 65536) % 65536
