-- Inner: the row of a literal in a table of the code's own with two rows for each variable. No promise of a call rests on it.
use Rattle.std.specs.Prelude.{ℕ, suc, ◌+◌, Bool, cond, ℤ, pos, negsuc}

-- the two rows of a variable: 2v, and the next
abbrev pub row_by : ℕ → Bool → ℕ
row_by v second = cond second (v + v + 1) (v + v)

-- the row of a literal: the first for the variable, and the second for its negation
unfoldable pub row_of : ℤ → ℕ
row_of (pos v) = v + v
row_of (negsuc v) = suc (suc v + suc v)

-- the row of the literal with the other sign
unfoldable pub other_row : ℤ → ℕ
other_row (pos v) = suc (v + v)
other_row (negsuc v) = suc v + suc v

-- the largest variable that has a literal of 32 bits
abbrev pub most_literal : ℕ
most_literal = 2147483647
