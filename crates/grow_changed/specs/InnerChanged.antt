-- Inner: what the functions of the call ask and promise. What a reader must believe is in Changed.
use Rattle.std.specs.Prelude.{ℕ, ◌≤◌, ◌<◌, ◌≡◌, Bool, true, false, List, [], ◌∷◌, ◌≢◌, ◌↔◌, ℤ, length, get_or}
use Rattle.terms.specs.Limits.{clause_entries}
use Rattle.terms.specs.Refusals.{Causes, None}
use Rattle.terms.specs.declared.Scheme.{Scheme}
use Rattle.formula.specs.Causes.{ClauseCause}
use Rattle.formula.specs.Lent.{Formula, formula_of}
use Rattle.forest_tables.specs.Causes.{ForestCause}
use Rattle.forest_tables.specs.Lent.{Rows, rows}
use Rattle.forest.specs.Causes.{OutputCause}
use Rattle.grow_refusals.specs.Admitted.{AddedCause}
use Rattle.grow.specs.Grown.{with_last}
use Rattle.sets_sizes.specs.InnerSizes.{Sizes}
use Rattle.grow_changed.specs.Changed.{LeftOf, Changes}

-- both numbers of clause entries are over the limit, or none is
abbrev pub OverAlike : ℕ → ℕ → Type 0
OverAlike entries other = (clause_entries < entries) ↔ (clause_entries < other)

-- clauses and a clause with nothing to refuse, which have room in one table
pub record Fit (n : ℕ) (ls clause : List ℤ) : Type 0 where
  pub short : length (with_last ls clause) ≤ clause_entries
  pub sound : None (ClauseCause n ls)
  pub admitted : None (AddedCause n clause)

-- what is looked for behind the clauses: 12, 14
abbrev pub behind_added : Scheme → Formula → Rows → List ℤ → List ℕ → List Causes
behind_added scheme f r clause before = ForestCause f.n f.prefix r ∷ OutputCause (Changes scheme f r clause) before ∷ []

-- and behind the prefix: clause literals from the left, the clause's literals from the left, 12, 14
abbrev pub behind_changed : Scheme → Formula → Rows → List ℤ → List ℕ → List Causes
behind_changed scheme f r clause before = ClauseCause f.n f.clauses ∷ AddedCause f.n clause ∷ behind_added scheme f r clause before

-- the sizes of all sets by some clauses, and by rows that add leaves of the lent ones
abbrev pub SizesWith : Scheme → ℕ → List ℕ → List ℤ → List ℕ → List ℕ → List ℤ → List ℕ → Type 0
SizesWith scheme n es ls classes parents clause sizes =
    (left : Rows) × LeftOf (formula_of n es ls) (rows classes parents []) clause left × Sizes scheme n es ls left.classes left.parents sizes n

-- the flags of 1 to m tell whose rows are not the same in both tables
abbrev pub FlagsOther : List ℕ → List ℕ → List Bool → ℕ → Type 0
FlagsOther before after flags m = (v : ℕ) → 1 ≤ v → v ≤ m → (get_or flags v false ≡ true) ↔ (get_or before v 0 ≢ get_or after v 0)

-- the flags tell the universals whose sets change
abbrev pub Grows : Scheme → Formula → Rows → List ℤ → List Bool → Type 0
Grows scheme f r clause flags = (x : ℕ) → 1 ≤ x → x ≤ f.n → (get_or flags x false ≡ true) ↔ Changes scheme f r clause x
