-- Inner: where the naming of the variables of a block stops. Nobody needs to believe this: it is between two functions of `prefix`.
use Rattle.std.specs.Prelude.{ℕ, ◌≤◌, ◌<◌, ◌≡◌, ◌≢◌, Bool, true, false, List, length, get_or, Option, None, Some}
use Rattle.formula.specs.Tables.{at}
use Rattle.formula.specs.InnerScan.{NamedTo}

-- From entry `start` to e stand variables with which nothing is wrong, all of them named then, and entry e is none that may be named: it is 0, or
-- over n, or named.
pub record StopsAt (n : ℕ) (es : List ℕ) (start : ℕ) (named named' : List Bool) (e : ℕ) : Type 0 where
  pub names : NamedTo n es start named e named'
  pub within : e < length es
  pub stops : at es e ≢ 0 → at es e ≤ n → get_or named' (at es e) false ≡ true

-- The same up to the entry that is given, or up to the end of the prefix where none is.
abbrev pub NamesFresh : ℕ → List ℕ → ℕ → List Bool → List Bool → Option ℕ → Type 0
NamesFresh n es start named named' None = NamedTo n es start named (length es) named'
NamesFresh n es start named named' (Some e) = StopsAt n es start named named' e
