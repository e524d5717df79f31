-- Inner: flags of the tops of what shares a clause with x, by either sign of x or by both. What a reader must believe of the calls is in the
-- definitions of `forest`.
use Rattle.std.specs.Prelude.{ℕ, ◌-◌, ◌≤◌, ◌<◌, ◌≡◌, Bool, true, false, cond, ◌⊎◌, ◌≢◌, ◌↔◌, ℤ, length, get_or, take, drop}
use mathlib.Core.List.{List, Memᴰ}
use Rattle.terms.specs.Literals.{variable_of}
use Rattle.terms.specs.InnerLimits.{variable_rows}
use Rattle.formula.specs.Meaning.{connected}
use Rattle.formula.specs.Tables.{literal_at}
use Rattle.forest_theory.specs.Tables.{row}
use Rattle.forest_tables.specs.Formula.{SharesBy}
use Rattle.forest_entries.specs.declared.Side.{Side}
use Rattle.forest_entries.specs.declared.Side.TheVariants.{Neither, Positive, Negative}
use Rattle.forest_entries.specs.declared.Signs.{Signs}
use Rattle.terms.specs.declared.Scheme.{Scheme}
use Rattle.terms.specs.declared.Scheme.TheVariants.{Standard, Strict}

-- the entries from start up to end have the variable v
pub record Has (ls : List ℤ) (start end v : ℕ) : Type 0 where
  pub place : ℕ
  pub from : start ≤ place
  pub before : place < end
  pub is : variable_of (literal_at ls place) ≡ v

-- the entries from start up to end have the literal
pub record HasLiteral (ls : List ℤ) (start end : ℕ) (literal : ℤ) : Type 0 where
  pub place : ℕ
  pub from : start ≤ place
  pub before : place < end
  pub is : literal_at ls place ≡ literal

-- a side says of which sign P holds
abbrev pub Sided : Side → (Bool → Type 0) → Type 0
Sided Neither P = (sign : Bool) → P sign → ⊥
Sided Positive P = P true
Sided Negative P = P false

-- what holds of the signs that a scan is for; and whether it is for a side
abbrev pub By : Signs → (Bool → Type 0) → Type 0
By Signs.Either P = P true ⊎ P false
By Signs.Positive P = P true
By Signs.Negative P = P false

unfoldable pub side_by : Signs → Side → Bool
side_by Signs.Either Neither = false
side_by Signs.Either Positive = true
side_by Signs.Either Negative = true
side_by Signs.Positive Neither = false
side_by Signs.Positive Positive = true
side_by Signs.Positive Negative = false
side_by Signs.Negative Neither = false
side_by Signs.Negative Positive = false
side_by Signs.Negative Negative = true

-- the clause from start up to end connects v
abbrev pub Connects : List ℤ → ℕ → ℕ → ℕ → Type 0
Connects ls start end v = Memᴰ v (connected (take (end - start) (drop start ls)))

-- a table of flags is another with those numbers added of which P holds
pub record Flagged (P : ℕ → Type 0) (old new : List Bool) : Type 0 where
  pub size : length new ≡ length old
  pub flags : (v : ℕ) → v < length old → (get_or new v false ≡ true) ↔ ((get_or old v false ≡ true) ⊎ P v)

-- what a scheme takes: what holds of either sign, or what holds of both
abbrev pub Takes : Scheme → (Bool → Type 0) → Type 0
Takes Standard P = P true ⊎ P false
Takes Strict P = P true × P false

-- e is the top of a variable of which P holds
pub record Via (n : ℕ) (tops : List ℕ) (P : ℕ → Type 0) (e : ℕ) : Type 0 where
  pub for : ℕ
  pub holds : P for
  pub is : row n tops for ≡ e
  pub some : e ≢ 0

-- a table of flags with none set
pub record Blank (flags : List Bool) : Type 0 where
  pub size : length flags ≡ variable_rows
  pub blank : (v : ℕ) → get_or flags v false ≡ false

-- a top that is flagged, and 0 in place of any other
unfoldable pub if_flagged : List Bool → ℕ → ℕ
if_flagged flags top = cond (get_or flags top false) top 0

-- the flags tell of which numbers P holds, and the row of a variable is flagged exactly if its entry is
pub record Entering (n : ℕ) (P : ℕ → Type 0) (entries tops : List ℕ) (flags : List Bool) : Type 0 where
  pub tells : (e : ℕ) → e ≤ 4096 → (get_or flags e false ≡ true) ↔ P e
  pub same : (y : ℕ) → get_or flags (row n tops y) false ≡ get_or flags (row n entries y) false

-- what is flagged are the tops that a scheme takes of the variables that share a clause with x
abbrev pub SharedBy : Scheme → ℕ → List ℤ → ℕ → List ℕ → List ℕ → List Bool → Type 0
SharedBy scheme n ls x entries tops flags = Entering n (λ e. Takes scheme (λ sign. Via n entries (SharesBy ls sign x) e)) entries tops flags
