-- What the inner functions find where paths end. What a reader must believe is in Paths.
use Rattle.std.specs.Prelude.{ℕ, ◌≤◌, ◌≡◌, Bool, true, false, not, List, [], ◌∷◌, ◌↔◌, ℤ, get_or}
use Rattle.terms.specs.Answers.{Listing}
use Rattle.terms.specs.Literals.{variable_of}
use Rattle.terms.specs.Refusals.{Causes}
use Rattle.terms.specs.Says.{Answer}
use Rattle.formula.specs.Lent.{Formula}
use Rattle.formula.specs.Tables.{literal_at}
use Rattle.formula.specs.InnerLookup.{SoundClauses}
use Rattle.forest_theory.specs.Reach.{Variables, Deeper}
use Rattle.forest_tables.specs.Formula.{signed}
use Rattle.forest_tables.specs.Lent.{variables_of}
use Rattle.forest.specs.Causes.{AskedCause, OutputCause}
use Rattle.sets_occurrences.specs.InnerThreads.{Closed}
use Rattle.path_resolution.specs.InnerWalk.{marked}
use Rattle.path_resolution.specs.Paths.{Path, DependsByPaths, ResolutionCause}

-- the literals of the variables up to n that a path may not pass are marked, and no other of them
abbrev pub Barred : Variables → ℕ → List Bool → Type 0
Barred X x marks = (l : ℤ) → 1 ≤ variable_of l → variable_of l ≤ X.count → (marked marks l ≡ false) ↔ Deeper X x (variable_of l)

-- a clause table that check accepts, for n variables: of no more than the limit's entries, each a literal of a variable up to n or a 0, and closed
pub record ReadClauses (n : ℕ) (ls : List ℤ) : Type 0 where
  pub sound : SoundClauses ls
  pub upto : (e : ℕ) → variable_of (literal_at ls e) ≤ n
  pub closed : Closed ls

-- of the literals of existentials deeper than x exactly those are marked at which a path ends
abbrev pub Ends : Variables → List ℤ → ℕ → ℤ → List Bool → Type 0
Ends X ls x from marks =
    (l : ℤ) → 1 ≤ variable_of l → variable_of l ≤ X.count → Deeper X x (variable_of l) → (marked marks l ≡ true) ↔ Path X ls x from l

-- two tables have opposite literals of v
abbrev pub Pairs : List Bool → List Bool → ℕ → Type 0
Pairs ends others v = (sign : Bool) × (marked ends (signed sign v) ≡ true) × (marked others (signed (not sign) v) ≡ true)

-- what is looked for behind check, in the formula as it is read: 13, 27, 14
abbrev pub behind_resolution : Formula → ℕ → List ℕ → List Causes
behind_resolution f x before =
    AskedCause f.n f.prefix x ∷ ResolutionCause f.n ∷ OutputCause (DependsByPaths (variables_of f) f.clauses x) before ∷ []

-- what the call promises of an accepted formula, as it is read
abbrev pub SoundListed : Formula → ℕ → List ℕ → List ℕ → Answer ℕ → Type 0
SoundListed f x before = Listing (behind_resolution f x before) (DependsByPaths (variables_of f) f.clauses x) before

-- the variables from 1 to n are flagged of which P holds, and no other of them
abbrev pub Flags : ℕ → (ℕ → Type 0) → List Bool → Type 0
Flags n P flags = (v : ℕ) → 1 ≤ v → v ≤ n → (get_or flags v false ≡ true) ↔ P v
