-- Inner: what the functions that store the parts of a line find and ask for. What a reader must believe is in Lines.
use Rattle.std.specs.Prelude.{ℕ, ◌+◌, ◌<◌, ◌≤◌, List, length, get_or}
use Rattle.text_write.specs.InnerBytes.{Wrote}

-- the bytes of a buffer that has room for every line
abbrev pub line_bytes : ℕ
line_bytes = 65536

-- Bytes that were stored from a place on, and the place after them, at most so many bytes on.
pub record Stored (most : ℕ) (bytes before after : List ℕ) (at next : ℕ) : Type 0 where
  pub wrote : Wrote bytes before after at next
  pub near : next ≤ at + most

-- a list of at most 4,096 numbers, each of at most five digits
pub record Small (list : List ℕ) : Type 0 where
  pub few : length list ≤ 4096
  pub short : (i : ℕ) → i < length list → get_or list i 0 < 100000
