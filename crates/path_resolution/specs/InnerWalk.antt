-- What the walk along resolution paths finds. What a reader must believe of these paths is in Paths.
use Rattle.std.specs.Prelude.{ℕ, suc, ◌≤◌, ◌<◌, ◌≡◌, Bool, true, false, List, [], ◌∷◌, ◌≢◌, ℤ, neg_ℤ, length, get_or}
use Rattle.terms.specs.Literals.{variable_of}
use Rattle.terms.specs.InnerLiteralRows.{row_of}
use Rattle.formula.specs.Tables.{literal_at}
use Rattle.sets_occurrences.specs.InnerThreads.{Inside, Connecting, On, Noted}

-- whether a literal is marked, in a table with a row for each literal
abbrev pub marked : List Bool → ℤ → Bool
marked marks literal = get_or marks (row_of literal) false

-- how many rows are not marked
unfoldable pub unmarked : List Bool → ℕ
unmarked [] = 0
unmarked (true ∷ marks) = unmarked marks
unmarked (false ∷ marks) = suc (unmarked marks)

-- the clause of entry p, which is not always true, is entered by the literal of that entry and may be left by the literal m
pub record Leaves (ls : List ℤ) (p : ℕ) (m : ℤ) : Type 0 where
  pub start : ℕ
  pub place : ℕ
  pub own : Inside ls start p
  pub other : Inside ls start place
  pub connecting : Connecting ls start
  pub is : literal_at ls place ≡ m
  pub another : variable_of (literal_at ls p) ≢ variable_of m

-- some clause is entered by the literal l and may be left by m
pub record Passes (ls : List ℤ) (l m : ℤ) : Type 0 where
  pub entry : ℕ
  pub entered : literal_at ls entry ≡ l
  pub leaves : Leaves ls entry m

-- a walk that starts with a literal of which S holds, goes from each literal through its complement to the next, and stays on those that are not marked
pub data Walk (ls : List ℤ) (marks : List Bool) (S : ℤ → Type 0) : ℤ → Type 0 where
  starts : {l : ℤ} → S l → marked marks l ≡ false → Walk ls marks S l
  steps : {l m : ℤ} → Walk ls marks S l → Passes ls (neg_ℤ l) m → marked marks m ≡ false → Walk ls marks S m

-- marks that a walk has added: it has come to each, and all that is next to each is marked
pub record Grown (ls : List ℤ) (S : ℤ → Type 0) (before after : List Bool) : Type 0 where
  pub size : length after ≡ length before
  pub kept : (row : ℕ) → get_or before row false ≡ true → get_or after row false ≡ true
  pub come : (l : ℤ) → marked before l ≡ false → marked after l ≡ true → Walk ls before S l
  pub whole : (l m : ℤ) → marked before l ≡ false → marked after l ≡ true → Passes ls (neg_ℤ l) m → marked after m ≡ true

-- a walk at its end: marks that it has added, with every literal of which S holds marked
pub record Walked (ls : List ℤ) (S : ℤ → Type 0) (before after : List Bool) : Type 0 where
  pub grown : Grown ls S before after
  pub all : (l : ℤ) → S l → marked after l ≡ true

-- occurrence lists: that of a variable leads to all its clauses but those that are always true
pub record Chained (ls : List ℤ) (first next : List ℕ) : Type 0 where
  pub heads : (e : ℕ) → variable_of (literal_at ls e) < length first
  pub links : length ls ≤ length next
  pub sound : (v p : ℕ) → On next p (get_or first v 0) → Noted ls next (length ls) v p
  pub complete : (s p : ℕ) → Inside ls s p → Connecting ls s → (q : ℕ) × On next q (get_or first (variable_of (literal_at ls p)) 0) × Inside ls s q

-- every literal has a row
abbrev pub Rowed : List ℤ → List Bool → Type 0
Rowed ls marks = (e : ℕ) → row_of (literal_at ls e) < length marks

-- entry p is a literal of a clause that is not always true
abbrev pub InClause : List ℤ → ℕ → Type 0
InClause ls p = (s : ℕ) × Inside ls s p × Connecting ls s
