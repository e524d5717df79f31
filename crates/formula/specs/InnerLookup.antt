-- Inner: how a clause is found in its table, and what functions ask of a clause table that check accepts. Nobody needs to believe this: what the
-- clause call promises is in Clause.
use Rattle.std.specs.Prelude.{ℕ, ◌<◌, ◌≤◌, ◌-◌, ◌≡◌, List, [], ◌≢◌, length, get_or, take, drop, ℤ, Option, None, Some}
use Rattle.terms.specs.Limits.{most_variables, clause_entries}
use Rattle.terms.specs.InnerLimits.{literal_rows}
use Rattle.terms.specs.Literals.{variable_of}
use Rattle.formula.specs.declared.clauses.Span.{Span}
use Rattle.formula.specs.Clause.{begin_of}
use Rattle.formula.specs.Meaning.{clauses}
use Rattle.formula.specs.Tables.{literal_at}

-- z is the first entry from `start` on with a 0, or where there is none the end.
pub record NextZero (ls : List ℤ) (start z : ℕ) : Type 0 where
  pub from : start ≤ z
  pub within : start ≤ length ls → z ≤ length ls
  pub literals : (e : ℕ) → start ≤ e → e < z → variable_of (literal_at ls e) ≢ 0
  pub closes : z < length ls → variable_of (literal_at ls z) ≡ 0

-- Where the clause asked for stands.
unfoldable pub Stands : List ℤ → ℕ → Option Span → Type 0
Stands ls asked (Some span) =
    (span.start ≤ span.end) × (span.end ≤ length ls) × (asked < length (clauses ls)) × (take (span.end - span.start) (drop span.start ls) ≡ get_or (clauses ls) asked [])
    × (span.start ≡ begin_of (clauses ls) asked)
Stands ls asked None = length (clauses ls) ≤ asked

-- Every variable is within the limit, so that a table with a row for each has one for it.
abbrev pub InRows : List ℤ → Type 0
InRows ls = (e : ℕ) → e < length ls → variable_of (literal_at ls e) ≤ most_variables

-- A clause table that check accepts, as inner functions need it.
pub record SoundClauses (ls : List ℤ) : Type 0 where
  pub short : length ls ≤ clause_entries
  pub rows : InRows ls

-- A table with a row for each literal, in which every stamp is below a limit.
pub record Stamps (seen : List ℕ) (limit : ℕ) : Type 0 where
  pub size : length seen ≡ literal_rows
  pub below : (row : ℕ) → get_or seen row 0 < limit
