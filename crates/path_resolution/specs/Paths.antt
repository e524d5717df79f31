-- Resolution paths (rule 14.1), what depends on a universal by them (rule 14.2), and what the call for the resolution-path set promises: its refusals
-- (rule 14.4, rule 8.2) and its list. Where this differs from the paper of Wimmer and others, the rules decide.
use mathlib.Core.List.{List, [], ◌∷◌, Memᴰ}
use Rattle.std.specs.Prelude.{ℕ, ◌<◌, ◌≡◌, Bool, true, false, not, ◌≢◌, ℤ, neg_ℤ, length}
use Rattle.terms.specs.Answers.{Listing}
use Rattle.terms.specs.Limits.{most_resolution_variables}
use Rattle.terms.specs.Literals.{variable_of}
use Rattle.terms.specs.Refusals.{Causes, At0}
use Rattle.terms.specs.Says.{Answer}
use Rattle.formula.specs.Causes.{VariableCount, LengthCause, ClauseCause}
use Rattle.formula.specs.Lent.{Formula}
use Rattle.formula.specs.Meaning.{clauses, always_true}
use Rattle.forest_theory.specs.Reach.{Variables, Deeper}
use Rattle.formula_rules.specs.Rules.{read_as, read_by, RuleCause, PrefixCauseBy}
use Rattle.forest_tables.specs.Formula.{signed}
use Rattle.forest_tables.specs.Lent.{variables_of}
use Rattle.forest.specs.Causes.{AskedCause, OutputCause}

-- A clause, not an always-true one, is entered by one literal and left by a literal of another variable.
pub record Crosses (ls : List ℤ) (enter leave : ℤ) : Type 0 where
  pub clause : List ℤ
  pub listed : Memᴰ clause (clauses ls)
  pub takes_part : always_true clause ≡ false
  pub entered : Memᴰ enter clause
  pub left : Memᴰ leave clause
  pub another : variable_of enter ≢ variable_of leave

-- A path from a literal first enters a clause by that literal, and ends at the literal by which it leaves its last clause. From a literal it goes to
-- the complement, and from the complement to a clause, which it enters by it. Only existentials deeper than x are passed on the way.
pub data Path (X : Variables) (ls : List ℤ) (x : ℕ) (from : ℤ) : ℤ → Type 0 where
  enters : {leave : ℤ} → Crosses ls from leave → Path X ls x from leave
  goes_on : {at leave : ℤ} → Path X ls x from at → Deeper X x (variable_of at) → Crosses ls (neg_ℤ at) leave → Path X ls x from leave

-- y, an existential deeper than x, depends on x if paths run from x and from its negation to opposite literals of y.
pub record DependsByPaths (X : Variables) (ls : List ℤ) (x y : ℕ) : Type 0 where
  pub deeper : Deeper X x y
  pub sign : Bool
  pub from_x : Path X ls x (signed true x) (signed sign y)
  pub from_negation : Path X ls x (signed false x) (signed (not sign) y)

-- 27: n over 512
abbrev pub ResolutionCause : ℕ → Causes
ResolutionCause n = At0 27 (most_resolution_variables < n)

-- the order of the call: 23, 1, 2, prefix from the left, clause literals from the left, 13, 27, 14
abbrev pub resolution_order : ℕ → Formula → ℕ → List ℕ → List Causes
resolution_order rule f x before =
    RuleCause rule ∷ VariableCount f.n ∷ LengthCause f.prefix (length f.clauses) ∷ PrefixCauseBy rule f.n f.prefix
    ∷ ClauseCause f.n f.clauses ∷ AskedCause f.n (read_as rule f.prefix) x ∷ ResolutionCause f.n
    ∷ OutputCause (DependsByPaths (variables_of (read_by rule f)) f.clauses x) before ∷ []

-- What the call promises: its refusals in their order, the ascending list of all that depends on x by the formula as it is read, and what it leaves in
-- the lent output.
abbrev pub ResolutionListed : ℕ → Formula → ℕ → List ℕ → List ℕ → Answer ℕ → Type 0
ResolutionListed rule f x before = Listing (resolution_order rule f x before) (DependsByPaths (variables_of (read_by rule f)) f.clauses x) before
