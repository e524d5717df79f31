-- Resolution paths (rule 14.1) for any clauses and any rule of what a path may pass, and what depends on x by them (rule 14.2); `path_resolution` has
-- them for the clauses of a table and the existentials deeper than x.
use Rattle.std.specs.Prelude.{ℕ, ◌≡◌, Bool, true, false, not, ◌≢◌, ℤ, neg_ℤ}
use mathlib.Core.List.{List, Memᴰ}
use Rattle.terms.specs.Literals.{variable_of}
use Rattle.formula.specs.Meaning.{always_true}
use Rattle.forest_tables.specs.Formula.{signed}

-- A clause, not an always-true one, is entered by one literal and left by a literal of another variable.
pub record Crossing (clauses : List (List ℤ)) (enter leave : ℤ) : Type 0 where
  pub clause : List ℤ
  pub listed : Memᴰ clause clauses
  pub takes_part : always_true clause ≡ false
  pub entered : Memᴰ enter clause
  pub left : Memᴰ leave clause
  pub another : variable_of enter ≢ variable_of leave

-- A path from a literal enters a clause by it and ends at the literal by which it leaves its last clause; from a literal it goes to the complement,
-- and enters the next clause by that. Only variables of which E holds are passed on the way.
pub data Way (clauses : List (List ℤ)) (E : ℕ → Type 0) (from : ℤ) : ℤ → Type 0 where
  enters : {leave : ℤ} → Crossing clauses from leave → Way clauses E from leave
  goes_on : {at leave : ℤ} → Way clauses E from at → E (variable_of at) → Crossing clauses (neg_ℤ at) leave → Way clauses E from leave

-- y, of which E holds, depends on x if paths run from x and from its negation to opposite literals of y.
pub record InPaths (clauses : List (List ℤ)) (E : ℕ → Type 0) (x y : ℕ) : Type 0 where
  pub allowed : E y
  pub sign : Bool
  pub from_x : Way clauses E (signed true x) (signed sign y)
  pub from_negation : Way clauses E (signed false x) (signed (not sign) y)

-- an existential that may depend on x: what paths from x may pass
pub record MayUse (ex : ℕ → Bool) (may : ℕ → ℕ → Type 0) (x y : ℕ) : Type 0 where
  pub existential : ex y ≡ true
  pub allowed : may x y

-- y is in the resolution-path set of x
abbrev pub PathSet : (ℕ → Bool) → (ℕ → ℕ → Type 0) → List (List ℤ) → ℕ → ℕ → Type 0
PathSet ex may clauses x = InPaths clauses (MayUse ex may x) x
