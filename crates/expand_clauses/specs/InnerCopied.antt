-- What the functions that number the copies and write the clauses say of their tables. What a reader must believe is in Expansion and Total.
use Rattle.std.specs.Prelude.{ℕ, ◌+◌, ◌≤◌, ◌≡◌, ◌≢◌, Bool, List, [], ◌∷◌, ◌++◌, map, ℤ, pos, length, get_or, Option, None, Some}
use Rattle.std.proofs.lemmas.List.Edits.{sets}
use Rattle.terms.specs.InnerLimits.{variable_rows}
use Rattle.terms.specs.declared.Variable.{Variable}
use Rattle.expand_clauses.specs.Expansion.{without, clause_table}
use Rattle.expand_clauses.specs.InnerCopies.{named, copies}

-- Some entries are stored from the row `at` on, as far as the table has rows, and `end` is the row behind them.
pub record Stored {A : Type 0} (entries before after : List A) (at end : ℕ) : Type 0 where
  pub count : end ≡ at + length entries
  pub store : after ≡ sets before at entries

-- the copies that a table has, row v for the variable v
abbrev pub tabled : List ℕ → ℕ → ℕ
tabled table v = get_or table v 0

-- the copy that a variable has in it: a 0 in its row stands for none
abbrev pub CopyOf : List ℕ → ℕ → Option Variable → Type 0
CopyOf table v None = tabled table v ≡ 0
CopyOf table v (Some copy) = (tabled table v ≢ 0) × (copy.0 ≡ tabled table v)

-- the most that an expanded formula can have of variables, and of clause entries: twice what a formula has
abbrev pub expanded_variables : ℕ
expanded_variables = 8192

abbrev pub expanded_entries : ℕ
expanded_entries = 32768

-- a table of copies: a row for each variable, and no number over that limit
pub record Copies (table : List ℕ) : Type 0 where
  pub size : length table ≡ variable_rows
  pub most : (v : ℕ) → tabled table v ≤ expanded_variables

-- the copy of a clause with its 0, and the table of all copies of some clauses, with x at a value
abbrev pub closed : Bool → ℕ → (ℕ → ℕ) → List ℤ → List ℤ
closed value x copy clause = map (named value copy) (without x clause) ++ (pos 0 ∷ [])

abbrev pub copied : Bool → ℕ → (ℕ → ℕ) → List (List ℤ) → List ℤ
copied value x copy cs = clause_table (copies value x copy cs)
