-- Inner: what is told of the tops of some variables where there is at most one.
use Rattle.std.specs.Prelude.{ℕ, ◌≡◌, ◌≢◌, ◌↔◌, Option, None, Some, Result, Ok, Err}
use Rattle.terms.specs.declared.Variable.{Variable}
use Rattle.sets_occurrences.specs.declared.soles.Several.{Several}

-- a top that may be there, or several
abbrev pub Sole : Type 0
Sole = Result (Option Variable) Several

-- the number of a top that may be there: 0 where none is
abbrev pub top_number : Option Variable → ℕ
top_number None = 0
top_number (Some top) = top.0

-- e is the top that is there
abbrev pub Names : Option Variable → ℕ → Type 0
Names None e = ⊥
Names (Some top) e = e ≡ top.0

-- e is the top of a row, which is 0 for none
abbrev pub Is : ℕ → ℕ → Type 0
Is top e = (e ≡ top) × (e ≢ 0)

-- P holds of the sole top and of nothing else; of several nothing is said
abbrev pub SoleOf : Sole → (ℕ → Type 0) → Type 0
SoleOf (Ok top) P = (e : ℕ) → Names top e ↔ P e
SoleOf (Err several) P = Unit {0}
