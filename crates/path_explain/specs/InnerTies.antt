-- Inner: the entries of the clauses that take part tied in chains, one for each variable. What a reader must believe is in Ways and Causes.
use Rattle.std.specs.Prelude.{ℕ, suc, ◌≤◌, ◌<◌, ◌≡◌, Bool, true, false, ◌↔◌, ℤ, length, get_or}
use mathlib.Core.List.{List, Memᴰ}
use Rattle.terms.specs.Literals.{variable_of}
use Rattle.terms.specs.InnerPairs.{high_of}
use Rattle.terms.specs.Limits.{clause_entries}
use Rattle.terms.specs.InnerLimits.{variable_rows}
use Rattle.formula.specs.InnerLookup.{SoundClauses}
use Rattle.formula.specs.Meaning.{clauses, always_true}
use Rattle.formula.specs.Tables.{literal_at}
use Rattle.forest_theory.specs.Reach.{Variables, Deeper}
use Rattle.sets_occurrences.specs.InnerThreads.{On, link_at, Closed}
use Rattle.path_check.specs.Paths.{clause_at, HasVariable}
use Rattle.path_check.specs.InnerWalk.{Rows}

-- the clause with the number k takes part: it is not always true
abbrev pub Plain : List ℤ → ℕ → Type 0
Plain ls k = always_true (clause_at ls k) ≡ false

-- it takes part and has the variable v
abbrev pub Holds : List ℤ → ℕ → ℕ → Type 0
Holds ls k v = Plain ls k × HasVariable ls k v

-- a clause table that check accepts, and the row of each of its clauses
pub record Laid (ls : List ℤ) (begins : List ℕ) : Type 0 where
  pub sound : SoundClauses ls
  pub closed : Closed ls
  pub rows : Rows ls begins (length (clauses ls))

-- the second number in a row of `next`: one more than the number of the entry's clause, or 0 where that takes no part
abbrev pub owner_at : List ℕ → ℕ → ℕ
owner_at next e = high_of (get_or next e 0)

-- entry e is a literal of the clause k, which takes part
pub record Owns (ls : List ℤ) (k e : ℕ) : Type 0 where
  pub within : e < length ls
  pub plain : Plain ls k
  pub is : Memᴰ (literal_at ls e) (clause_at ls k)

-- what is on the chain of v: an entry of v with an owner, and the chain goes on to an entry before it
pub record Linked (next : List ℕ) (ls : List ℤ) (v p : ℕ) : Type 0 where
  pub falls : link_at next p ≤ p
  pub owner : (k : ℕ) × (owner_at next p ≡ suc k)
  pub is : variable_of (literal_at ls p) ≡ v

-- every literal of a clause that takes part has its owner, and stands on the chain of its variable
pub record Tied (ls : List ℤ) (first next : List ℕ) : Type 0 where
  pub heads : length first ≡ variable_rows
  pub links : length next ≡ clause_entries
  pub owned : (e k : ℕ) → owner_at next e ≡ suc k → Owns ls k e
  pub complete : (k : ℕ) (l : ℤ) → Plain ls k → Memᴰ l (clause_at ls k) → (e : ℕ) × (owner_at next e ≡ suc k) × (literal_at ls e ≡ l)
  pub sound : (v p : ℕ) → On next p (get_or first v 0) → Linked next ls v p
  pub on : (e k : ℕ) → owner_at next e ≡ suc k → On next e (get_or first (variable_of (literal_at ls e)) 0)

-- a table with a row for each variable and no number in it yet
pub record Cleared (rows : List ℕ) (size : ℕ) : Type 0 where
  pub length_is : length rows ≡ size
  pub zero_is : (v : ℕ) → get_or rows v 0 ≡ 0

-- the flags tell the existentials deeper than x
pub record FlagsDeeper (X : Variables) (x : ℕ) (flags : List Bool) : Type 0 where
  pub size : length flags ≡ variable_rows
  pub tells : (v : ℕ) → (get_or flags v false ≡ true) ↔ Deeper X x v

-- what is on a chain from k: entries with an owner that takes part, each of which goes on to an entry before it
pub record Chain (ls : List ℤ) (next : List ℕ) (k : ℕ) : Type 0 where
  pub size : length next ≡ clause_entries
  pub falls : (p : ℕ) → On next p k → (p < clause_entries) × (link_at next p ≤ p)
  pub owned : (p : ℕ) → On next p k → (j : ℕ) × (owner_at next p ≡ suc j) × Owns ls j p

-- what is on it is of one variable
abbrev pub Heading : List ℤ → List ℕ → ℕ → ℕ → Type 0
Heading ls next k v = (p : ℕ) → On next p k → variable_of (literal_at ls p) ≡ v
