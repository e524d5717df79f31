-- Inner: where clauses begin, and the chains (occurrence lists) that tie a variable to its clauses.
use Rattle.std.specs.Prelude.{ℕ, zero, suc, ◌+◌, ◌-◌, ◌≤◌, ◌<◌, ◌≡◌, Bool, true, false, List, ◌⊎◌, ◌≢◌, ◌↔◌, ℤ, pos, length, get_or, take, drop}
use Rattle.terms.specs.Literals.{variable_of}
use Rattle.terms.specs.InnerPairs.{low_of, high_of}
use Rattle.formula.specs.Tables.{literal_at, EndsInside}
use Rattle.formula.specs.Meaning.{always_true}
use Rattle.formula.specs.InnerLookup.{NextZero, Stamps}
use Rattle.forest_tables.specs.Formula.{signed}
use Rattle.terms.specs.declared.Scheme.{Scheme}
use Rattle.forest_entries.specs.InnerFlags.{Takes, Via, Entering}

-- a clause begins with entry s: the first, or one behind the 0 of a clause
pub data Begins (ls : List ℤ) : ℕ → Type 0 where
  first : {s : ℕ} → s ≡ 0 → Begins ls s
  after : {s : ℕ} (b z : ℕ) → Begins ls b → NextZero ls b z → z < length ls → s ≡ z + 1 → Begins ls s

-- s begins the clause in which entry p stands: it is the first entry, or stands behind the last 0 before p
pub record LastZero (ls : List ℤ) (p s : ℕ) : Type 0 where
  pub most : s ≤ p
  pub literals : (e : ℕ) → s ≤ e → e < p → variable_of (literal_at ls e) ≢ 0
  pub opens : (s ≡ 0) ⊎ (variable_of (literal_at ls (s - 1)) ≡ 0)

-- entry p is a literal of the clause that begins with s
pub record Inside (ls : List ℤ) (s p : ℕ) : Type 0 where
  pub begins : Begins ls s
  pub from : s ≤ p
  pub literals : (e : ℕ) → s ≤ e → e ≤ p → variable_of (literal_at ls e) ≢ 0

-- the clause that begins with s is not always true
abbrev pub Connecting : List ℤ → ℕ → Type 0
Connecting ls s = (z : ℕ) × NextZero ls s z × (always_true (take (z - s) (drop s ls)) ≡ false)

-- a flag tells whether the clause that begins with s is always true, and every stamp is less than that of the next clause
pub record Skipping (ls : List ℤ) (s : ℕ) (skip : Bool) (seen : List ℕ) : Type 0 where
  pub end : ℕ
  pub next : NextZero ls s end
  pub told : skip ≡ always_true (take (end - s) (drop s ls))
  pub stamps : Stamps seen (end + 1 + 1)

-- what is known of the clause that begins with s: whether it is always true, if it was judged last, and else that every stamp is less than its own
abbrev pub Recalled : List ℤ → ℕ → ℕ → Bool → List ℕ → Type 0
Recalled ls s judged skip seen = (s ≡ judged → Skipping ls s skip seen) × (s ≢ judged → Stamps seen (s + 1))

-- there is a flag for the variable of every entry, and none is set for 0
pub record Covered (ls : List ℤ) (universals : List Bool) : Type 0 where
  pub rows : (e : ℕ) → e < length ls → variable_of (literal_at ls e) < length universals
  pub none : get_or universals 0 false ≡ false

-- whether a variable is a universal by its flag: the 0 that closes a clause is none
unfoldable pub marked : List Bool → ℕ → Bool
marked universals zero = false
marked universals (suc v) = get_or universals (suc v) false

-- the entries of universals before i, ascending, with the entries that their clauses begin with
pub record Gathered (ls : List ℤ) (universals : List Bool) (places starts : List ℕ) (count i : ℕ) : Type 0 where
  pub few : count ≤ i
  pub before : (j : ℕ) → j < count → get_or places j 0 < i
  pub universal : (j : ℕ) → j < count → marked universals (variable_of (literal_at ls (get_or places j 0))) ≡ true
  pub inside : (j : ℕ) → j < count → Inside ls (get_or starts j 0) (get_or places j 0)
  pub rises : (j k : ℕ) → j < k → k < count → get_or places j 0 < get_or places k 0
  pub complete : (p : ℕ) → p < i → marked universals (variable_of (literal_at ls p)) ≡ true → (j : ℕ) × (j < count) × (get_or places j 0 ≡ p)

-- the clause of entry p, which is not always true, has the variable v
pub record Beside (ls : List ℤ) (p v : ℕ) : Type 0 where
  pub start : ℕ
  pub place : ℕ
  pub own : Inside ls start p
  pub other : Inside ls start place
  pub connecting : Connecting ls start
  pub is : variable_of (literal_at ls place) ≡ v

-- a clause that is not always true has the literal of x with a sign, and the variable v
pub record Together (ls : List ℤ) (sign : Bool) (x v : ℕ) : Type 0 where
  pub place : ℕ
  pub is : literal_at ls place ≡ signed sign x
  pub beside : Beside ls place v

-- the flags tell the tops that a scheme takes of the variables that are in a clause with x
abbrev pub EnteredBy : Scheme → ℕ → List ℕ → List ℤ → ℕ → List Bool → Type 0
EnteredBy scheme n tops ls x flags = Entering n (λ e. Takes scheme (λ sign. Via n tops (Together ls sign x) e)) tops tops flags

-- of the flags of a table those are left that another has too
abbrev pub Common : List Bool → List Bool → List Bool → Type 0
Common other old new = (e : ℕ) → (get_or new e false ≡ true) ↔ ((get_or other e false ≡ true) × (get_or old e false ≡ true))

-- the two numbers in a row of `next`: where the chain goes on, and the entry that the clause begins with
abbrev pub link_at : List ℕ → ℕ → ℕ
link_at next p = low_of (get_or next p 0)

abbrev pub start_at : List ℕ → ℕ → ℕ
start_at next p = high_of (get_or next p 0)

-- Entry p is on the chain from k: 0 ends it, and suc q stands for entry q, whose row in `next` goes on.
pub data On (next : List ℕ) (p : ℕ) : ℕ → Type 0 where
  here : On next p (suc p)
  later : {q : ℕ} → On next p (link_at next q) → On next p (suc q)

-- what holds of an entry p before i on the chain of x: it is x in a clause that is not always true, its row has the start of the clause, and the
-- chain goes on to an entry before it
pub record Noted (ls : List ℤ) (next : List ℕ) (i x p : ℕ) : Type 0 where
  pub before : p < i
  pub falls : link_at next p ≤ p
  pub start : ℕ
  pub begun : start_at next p ≡ start
  pub inside : Inside ls start p
  pub connecting : Connecting ls start
  pub is : variable_of (literal_at ls p) ≡ x

-- each variable is tied to its clauses among the entries before i, those that are always true left out: what is on its chain is noted, and a
-- universal has an entry in each
pub record Threaded (ls : List ℤ) (universals : List Bool) (first next : List ℕ) (i : ℕ) : Type 0 where
  pub sound : (x p : ℕ) → On next p (get_or first x 0) → Noted ls next i x p
  pub complete : (x s p : ℕ) → get_or universals x false ≡ true → p < i → Inside ls s p → Connecting ls s → variable_of (literal_at ls p) ≡ x
      → (q : ℕ) × On next q (get_or first x 0) × Inside ls s q

-- the chain of the universal x ties it to all its clauses
pub record Tied (ls : List ℤ) (first next : List ℕ) (x : ℕ) : Type 0 where
  pub heads : x < length first
  pub links : length ls ≤ length next
  pub universals : List Bool
  pub threaded : Threaded ls universals first next (length ls)
  pub universal : get_or universals x false ≡ true

-- the table does not end inside a clause
abbrev pub Closed : List ℤ → Type 0
Closed ls = EndsInside (pos 0) ls → ⊥
