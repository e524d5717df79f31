-- To be believed: what add refuses of the clause and of the tally that it is given, as the table of rule 8.1 has it (10 and 18).
use Rattle.std.specs.Prelude.{ℕ, ◌+◌, ◌≤◌, ◌<◌, ◌≡◌, List, ◌⊎◌, ◌≢◌, ℤ, length}
use Rattle.terms.specs.Literals.{variable_of}
use Rattle.terms.specs.declared.Tally.{Tally}
use Rattle.formula.specs.Tables.{literal_at}

-- 10, for an added clause: a literal's variable outside 1 to n, or 0
pub data AddedCause (n : ℕ) (ls : List ℤ) (number e : ℕ) : Type 0 where
  outside : number ≡ 10 → e < length ls → (variable_of (literal_at ls e) ≡ 0) ⊎ (n < variable_of (literal_at ls e)) → AddedCause n ls number e

-- the clauses that a tally must have fewer of, for one more to be added
abbrev pub tally_clauses : ℕ
tally_clauses = 65535

-- 18: the tally is at 65,535 clauses or more, or its classes left are not as many as the tables' class names, or its merges and classes left do not sum
-- to the existentials
abbrev pub WrongTally : Tally → ℕ → ℕ → Type 0
WrongTally t class_names exs = (tally_clauses ≤ t.clauses) ⊎ ((t.classes ≢ class_names) ⊎ (t.merges + t.classes ≢ exs))
