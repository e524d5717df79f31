-- What the inner functions keep while they follow a path: where each clause begins, and stamps of the variables of the clause before. What a reader
-- must believe of the call is in Paths and Causes.
use Rattle.std.specs.Prelude.{ℕ, suc, ◌≤◌, ◌<◌, ◌-◌, ◌≡◌, true, false, List, ◌⊎◌, ℤ, length, get_or, take, drop}
use Rattle.terms.specs.Limits.{clause_entries}
use Rattle.formula.specs.InnerLookup.{NextZero}
use Rattle.formula.specs.Meaning.{clauses, always_true}
use Rattle.formula.specs.Tables.{at}
use Rattle.forest_theory.specs.Reach.{Variables, Deeper}
use Rattle.forest_entries.specs.InnerFlags.{Has}
use Rattle.path_check.specs.Paths.{clause_at, HasVariable, Shared}

-- the clause with the number k stands from `start` up to the 0 at `end`, and is not always true
pub record StandsFrom (ls : List ℤ) (k start end : ℕ) : Type 0 where
  pub next : NextZero ls start end
  pub closed : end < length ls
  pub is : take (end - start) (drop start ls) ≡ clause_at ls k
  pub not-true : always_true (clause_at ls k) ≡ false

-- the row of a clause: 0 where it is always true, and else one more than the entry with which it begins
pub data Begin (ls : List ℤ) (k row : ℕ) : Type 0 where
  idle : row ≡ 0 → always_true (clause_at ls k) ≡ true → Begin ls k row
  from : (start end : ℕ) → row ≡ suc start → StandsFrom ls k start end → Begin ls k row

-- the row of a clause that is given by its entries, from start up to end, and not by its number
pub data RowOf (ls : List ℤ) (start end row : ℕ) : Type 0 where
  idle : row ≡ 0 → always_true (take (end - start) (drop start ls)) ≡ true → RowOf ls start end row
  from : row ≡ suc start → always_true (take (end - start) (drop start ls)) ≡ false → RowOf ls start end row

-- a table with a row for each of so many clauses, the first of the clause table
pub record Rows (ls : List ℤ) (begins : List ℕ) (count : ℕ) : Type 0 where
  pub few : count ≤ clause_entries
  pub room : count ≤ length begins
  pub rows : (k : ℕ) → k < count → Begin ls k (get_or begins k 0)

-- every entry of a path is below the most clauses that a table can hold
abbrev pub Small : List ℕ → Type 0
Small path = (i : ℕ) → i < length path → at path i < clause_entries

-- every clause has its row, and every entry of a path names one
pub record Known (ls : List ℤ) (begins path : List ℕ) : Type 0 where
  pub all : Rows ls begins (length (clauses ls))
  pub below : (i : ℕ) → i < length path → at path i < length (clauses ls)

-- entry i continues a path: as the first its clause has x, and else it shares an existential deeper than x with the one before
pub data Joins (X : Variables) (ls : List ℤ) (x : ℕ) (path : List ℕ) (i : ℕ) : Type 0 where
  first : i ≡ 0 → HasVariable ls (at path 0) x → Joins X ls x path i
  next : (e : ℕ) → i ≡ suc e → Shared X ls x (at path e) (at path i) → Joins X ls x path i

-- some variable of the entries from start up to end is an existential deeper than x, and has the stamp
pub record Meets (X : Variables) (ls : List ℤ) (start end x : ℕ) (stamps : List ℕ) (stamp : ℕ) : Type 0 where
  pub variable : ℕ
  pub here : Has ls start end variable
  pub deep : Deeper X x variable
  pub stamped : get_or stamps variable 0 ≡ stamp

-- the stamp is put in the rows of which P holds, and in no other
pub record Stamped (P : ℕ → Type 0) (stamp : ℕ) (old new : List ℕ) : Type 0 where
  pub size : length new ≡ length old
  pub marked : (v : ℕ) → P v → get_or new v 0 ≡ stamp
  pub others : (v : ℕ) → (get_or new v 0 ≡ get_or old v 0) ⊎ (P v × (get_or new v 0 ≡ stamp))

-- Stamps before entry i of a path: one more than the number of a clause that has the variable, or 0; and every variable of the clause before has its
-- stamp.
pub record Walked (ls : List ℤ) (path stamps : List ℕ) (i : ℕ) : Type 0 where
  pub size : length stamps ≡ 4097
  pub true_ones : (v k : ℕ) → get_or stamps v 0 ≡ suc k → HasVariable ls k v
  pub before : (e : ℕ) → i ≡ suc e → (v : ℕ) → HasVariable ls (at path e) v → get_or stamps v 0 ≡ suc (at path e)
