-- Inner: distances from y, found breadth first. What a reader must believe is in Ways and Causes.
use Rattle.std.specs.Prelude.{ℕ, zero, suc, ◌+◌, ◌≤◌, ◌<◌, ◌≡◌, Bool, true, false, List, [], ◌∷◌, ◌≢◌, ◌⊎◌, length, get_or}
use Rattle.terms.specs.InnerLimits.{variable_rows}
use Rattle.formula.specs.Tables.{at}

-- whether a variable is flagged
abbrev pub Flag : List Bool → ℕ → Type 0
Flag flags v = get_or flags v false ≡ true

-- Distances: that of a clause is how many clauses a way from it to y has, and that of a variable one more than the least of its clauses; that of y is 1.
-- 0 stands for none. They are right if each is reached from the one before and none is too large. H k v says that clause k has v, and P v that a way
-- may pass v.
pub record Measured (H : ℕ → ℕ → Type 0) (P : ℕ → Type 0) (y : ℕ) (dists rows : List ℕ) : Type 0 where
  pub begun : at rows y ≡ 1
  pub clause_near : (k : ℕ) → at dists k ≢ 0 → (v : ℕ) × P v × H k v × (at rows v ≡ at dists k)
  pub clause_far : (k v : ℕ) → H k v → at rows v ≢ 0 → (at dists k ≢ 0) × (at dists k ≤ at rows v)
  pub row_near : (v : ℕ) → at rows v ≢ 0 → P v × (((v ≡ y) × (at rows v ≡ 1)) ⊎ ((k : ℕ) × H k v × (at dists k ≢ 0) × (at rows v ≡ suc (at dists k))))
  pub row_far : (k v : ℕ) → P v → H k v → at dists k ≢ 0 → (at rows v ≢ 0) × (at rows v ≤ suc (at dists k))

-- how many rows are 0
unfoldable pub zeros : List ℕ → ℕ
zeros [] = 0
zeros (zero ∷ rows) = suc (zeros rows)
zeros (suc _ ∷ rows) = zeros rows

-- each variable with a row is queued, so that there is room for the others
pub record Room (rows queue : List ℕ) (tail : ℕ) : Type 0 where
  pub row_size : length rows ≡ variable_rows
  pub queue_size : length queue ≡ variable_rows
  pub full : tail + zeros rows ≡ variable_rows

-- the variables of which P holds and that had no row got one, and were queued
pub record Pushed (P : ℕ → Type 0) (row : ℕ) (rows queue : List ℕ) (tail : ℕ) (rows' queue' : List ℕ) (tail' : ℕ) : Type 0 where
  pub more : tail ≤ tail'
  pub kept : (i : ℕ) → i < tail → at queue' i ≡ at queue i
  pub either : (v : ℕ) → (at rows' v ≡ at rows v) ⊎ ((at rows v ≡ 0) × P v × (at rows' v ≡ row))
  pub all : (v : ℕ) → P v → at rows' v ≢ 0
  pub new : (i : ℕ) → tail ≤ i → i < tail' → at rows' (at queue' i) ≡ row
  pub queued : (v : ℕ) → at rows v ≡ 0 → at rows' v ≢ 0 → (i : ℕ) × (i < tail') × (at queue' i ≡ v)

-- The search, with the variables before `head` of the queue done. Those from there up to the border have the distance d, and those behind it one more.
pub record Searching (H : ℕ → ℕ → Type 0) (P : ℕ → Type 0) (y head d : ℕ) (dists rows queue : List ℕ) (tail : ℕ) : Type 0 where
  pub begun : at rows y ≡ 1
  pub clause_near : (k : ℕ) → at dists k ≢ 0 → (v : ℕ) × P v × H k v × (at rows v ≡ at dists k)
  pub row_near : (v : ℕ) → at rows v ≢ 0 → P v × (((v ≡ y) × (at rows v ≡ 1)) ⊎ ((k : ℕ) × H k v × (at dists k ≢ 0) × (at rows v ≡ suc (at dists k))))
  pub row_far : (k v : ℕ) → P v → H k v → at dists k ≢ 0 → (at rows v ≢ 0) × (at rows v ≤ suc (at dists k))
  pub clause_low : (k : ℕ) → at dists k ≤ d
  pub queued : (v : ℕ) → at rows v ≢ 0 → (i : ℕ) × (i < tail) × (at queue i ≡ v)
  pub border : ℕ
  pub behind : head ≤ border
  pub before : border ≤ tail
  pub low : (i : ℕ) → i < border → at rows (at queue i) ≤ d
  pub here : (i : ℕ) → head ≤ i → i < border → at rows (at queue i) ≡ d
  pub next : (i : ℕ) → border ≤ i → i < tail → at rows (at queue i) ≡ suc d
  pub done : (i k : ℕ) → i < head → H k (at queue i) → (at dists k ≢ 0) × (at dists k ≤ at rows (at queue i))
  pub some : 0 < d
  pub few : d ≤ border
  pub filled : (i : ℕ) → i < tail → at rows (at queue i) ≢ 0

-- distances that are there stay
pub record Kept (dists rows queue : List ℕ) (tail : ℕ) (dists' rows' queue' : List ℕ) (tail' : ℕ) : Type 0 where
  pub clause : (k : ℕ) → at dists k ≢ 0 → at dists' k ≡ at dists k
  pub row : (v : ℕ) → at rows v ≢ 0 → at rows' v ≡ at rows v
  pub queue_kept : (i : ℕ) → i < tail → at queue' i ≡ at queue i
  pub tail_kept : tail ≤ tail'
  pub size : length dists' ≡ length dists

-- no distance is so large that one more would not fit
abbrev pub Small : List ℕ → Type 0
Small dists = (k : ℕ) → at dists k ≤ variable_rows
