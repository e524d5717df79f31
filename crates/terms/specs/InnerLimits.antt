-- Inner: the sizes of tables, which follow from the limits.
use Rattle.std.specs.Prelude.{ℕ}

-- the rows of a table with one for each variable up to the limit, and row 0
abbrev pub variable_rows : ℕ
variable_rows = 4097

-- the rows of a table with two for each of these, one for each literal
abbrev pub literal_rows : ℕ
literal_rows = 8194

-- the most entries of a prefix whose neighbouring blocks are joined: all variables, and a mark and a 0 for each block
abbrev pub joined_entries : ℕ
joined_entries = 4224

-- the rows of a table with one for each variable of such a formula and row 0, and of one with two for each of these, one for each literal
abbrev pub resolution_rows : ℕ
resolution_rows = 513

abbrev pub resolution_literal_rows : ℕ
resolution_literal_rows = 1026
