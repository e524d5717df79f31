-- Inner: which clause a way begins with, and which one comes next. What a reader must believe is in Ways and Causes.
use Rattle.std.specs.Prelude.{ℕ, suc, ◌+◌, ◌≤◌, ◌<◌, ◌≡◌, Bool, Option, None, Some, List, ◌≢◌, ◌⊎◌, ℤ, length}
use Rattle.terms.specs.Literals.{variable_of}
use Rattle.terms.specs.Limits.{clause_entries}
use Rattle.terms.specs.InnerLimits.{variable_rows}
use Rattle.formula.specs.Tables.{at, literal_at}
use Rattle.forest_entries.specs.InnerFlags.{By}
use Rattle.forest_entries.specs.declared.Signs.{Signs}
use Rattle.forest_tables.specs.Formula.{signed}
use Rattle.path_explain.specs.InnerTies.{owner_at, Holds, Laid}
use Rattle.path_explain.specs.InnerSearch.{Flag, Measured}

-- the owner of a clause that may be there: one more than its number, and 0 where there is none
abbrev pub owner_told : Option ℕ → ℕ
owner_told None = 0
owner_told (Some clause) = suc clause

-- a literal is one of x by the signs
abbrev pub OpensBy : Signs → ℕ → ℤ → Type 0
OpensBy signs x literal = By signs (λ sign. literal ≡ signed sign x)

-- clause a is nearer than b, or as near and its number not higher
abbrev pub NoLater : List ℕ → ℕ → ℕ → Type 0
NoLater dists a b = (at dists a < at dists b) ⊎ ((at dists a ≡ at dists b) × (a ≤ b))

-- an owner stands for a clause that is no later than k
abbrev pub Leads : List ℕ → ℕ → ℕ → Type 0
Leads dists owner k = (b : ℕ) × (owner ≡ suc b) × NoLater dists b k

-- an owner is the first of the nearest clauses of which Q holds, or 0 where none of them has a distance
pub record Best (Q : ℕ → Type 0) (dists : List ℕ) (owner : ℕ) : Type 0 where
  pub found : (owner ≡ 0) ⊎ ((k : ℕ) × (owner ≡ suc k) × Q k × (at dists k ≢ 0))
  pub low : (k : ℕ) → Q k → at dists k ≢ 0 → Leads dists owner k

-- an owner is one of two, and no later than each that has a distance
pub record Nearer (dists : List ℕ) (best owner r : ℕ) : Type 0 where
  pub is : (r ≡ best) ⊎ ((r ≡ owner) × ((k : ℕ) × (owner ≡ suc k) × (at dists k ≢ 0)))
  pub one : (b : ℕ) → best ≡ suc b → Leads dists r b
  pub other : (k : ℕ) → owner ≡ suc k → at dists k ≢ 0 → Leads dists r k

-- the clause k has a literal of which R holds at an entry before i
pub record Before (R : ℤ → Type 0) (ls : List ℤ) (next : List ℕ) (i k : ℕ) : Type 0 where
  pub place : ℕ
  pub before : place < i
  pub owner : owner_at next place ≡ suc k
  pub is : R (literal_at ls place)

-- it has one of x by the signs there, or one of the variable v
abbrev pub OpensBefore : List ℤ → List ℕ → Signs → ℕ → ℕ → ℕ → Type 0
OpensBefore ls next signs x i = Before (OpensBy signs x) ls next i

abbrev pub HoldsBefore : List ℤ → List ℕ → ℕ → ℕ → ℕ → Type 0
HoldsBefore ls next i v = Before (λ l. variable_of l ≡ v) ls next i

-- the clause of an owner is one nearer than a row, and the owner lower than the best, where that is not 0
pub record IsNearer (dists : List ℕ) (owner row best : ℕ) : Type 0 where
  pub clause : ℕ
  pub owns : owner ≡ suc clause
  pub some : at dists clause ≢ 0
  pub row_is : row ≡ suc (at dists clause)
  pub lower : (best ≡ 0) ⊎ (owner < best)

-- the lowest owner for each variable among its clauses that are one nearer, where Q v k says that clause k has v
pub record Nearest (Q : ℕ → ℕ → Type 0) (dists rows nearest : List ℕ) : Type 0 where
  pub size : length nearest ≡ variable_rows
  pub sound : (v k : ℕ) → at nearest v ≡ suc k → Q v k × (at dists k ≢ 0) × (at rows v ≡ suc (at dists k))
  pub low : (v k : ℕ) → Q v k → at dists k ≢ 0 → at rows v ≡ suc (at dists k) → (at nearest v ≢ 0) × (at nearest v ≤ suc k)

-- an owner is the lowest of those of the variables of which Q holds; 0 is none
pub record Lowest (Q : ℕ → Type 0) (nearest : List ℕ) (r : ℕ) : Type 0 where
  pub found : (r ≡ 0) ⊎ ((v : ℕ) × Q v × (at nearest v ≡ r))
  pub low : (v : ℕ) → Q v → at nearest v ≢ 0 → (r ≢ 0) × (r ≤ at nearest v)

-- an owner is the lower of two, where 0 is none
pub record Lower (best owner r : ℕ) : Type 0 where
  pub is : (r ≡ best) ⊎ (r ≡ owner)
  pub one : best ≢ 0 → (r ≢ 0) × (r ≤ best)
  pub other : owner ≢ 0 → (r ≢ 0) × (r ≤ owner)

-- m is the first clause that shares with k a variable that may be passed, and is one nearer
pub record Onward (H : ℕ → ℕ → Type 0) (P : ℕ → Type 0) (dists : List ℕ) (k m : ℕ) : Type 0 where
  pub via : ℕ
  pub may : P via
  pub left : H k via
  pub right : H m via
  pub nearer : at dists k ≡ suc (at dists m)
  pub some : at dists m ≢ 0
  pub first : (l v : ℕ) → P v → H k v → H l v → at dists l ≢ 0 → at dists k ≡ suc (at dists l) → m ≤ l

-- a path that begins with a clause, from each goes on to the next, and has as many clauses as the first is far
pub record Steps (H : ℕ → ℕ → Type 0) (P : ℕ → Type 0) (dists : List ℕ) (first : ℕ) (path : List ℕ) : Type 0 where
  pub begins : 0 < length path → at path 0 ≡ first
  pub far : (i : ℕ) → i < length path → at dists (at path i) + i ≡ length path
  pub steps : (i : ℕ) → suc i < length path → Onward H P dists (at path i) (at path (suc i))

-- every owner stands for a row of a table with one for each clause
abbrev pub Owners : List ℕ → ℕ → Type 0
Owners next size = (size ≤ length next) × ((e : ℕ) → owner_at next e ≤ clause_entries)

-- all that is known when a way is written: the clauses, the distances, the nearest clause of each variable, and the clause that it begins with
pub record Ready (ls : List ℤ) (begins : List ℕ) (flags : List Bool) (y : ℕ) (dists rows nearest : List ℕ) (first count : ℕ) : Type 0 where
  pub laid : Laid ls begins
  pub measured : Measured (Holds ls) (Flag flags) y dists rows
  pub size : length rows ≡ variable_rows
  pub near : Nearest (λ v k. Holds ls k v) dists rows nearest
  pub far : at dists first ≡ count
