-- The limits (rule 1.1, rule 1.4, rule 8.1, rule 14.4), which the types `Variable`, `Level` and `Literal` carry as constants (rule 1.8).
use Rattle.std.specs.Prelude.{ℕ}

-- the largest variable count
abbrev pub most_variables : ℕ
most_variables = 4096

-- the most blocks of a prefix
abbrev pub most_blocks : ℕ
most_blocks = 64

-- the most entries of a prefix
abbrev pub prefix_entries : ℕ
prefix_entries = 8192

-- the most entries of a clause table, and of an added clause
abbrev pub clause_entries : ℕ
clause_entries = 16384

-- the largest variable count of a formula of which resolution paths are asked
abbrev pub most_resolution_variables : ℕ
most_resolution_variables = 512
