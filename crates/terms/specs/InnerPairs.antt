-- Inner: two numbers in one row of a table, each less than 65,536. No promise of a call rests on it.
use Rattle.std.specs.Prelude.{ℕ, ◌/◌, ◌%◌}

abbrev pub low_of : ℕ → ℕ
low_of row = row % 65536

abbrev pub high_of : ℕ → ℕ
high_of row = row / 65536
