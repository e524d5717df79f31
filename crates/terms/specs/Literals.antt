-- The variable of a literal (rule 1.3), also of the smallest 32-bit one (rule 17.3).
use Rattle.std.specs.Prelude.{ℕ, ℤ, nat_abs}

-- the variable of a literal, in either sign
abbrev pub variable_of : ℤ → ℕ
variable_of literal = nat_abs literal
