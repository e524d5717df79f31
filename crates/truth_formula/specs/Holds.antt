-- When a formula as lent is true (rule 19.1). What is said of a formula is said under a reading rule of the formula as the rule reads it (read_by).
use Rattle.std.specs.Prelude.{ℕ, ◌<◌, ◌≡◌, true, List}
use Rattle.formula.specs.Lent.{Formula}
use Rattle.formula.specs.Meaning.{level, is_existential, clauses}
use Rattle.forest_tables.specs.Formula.{universal}
use Rattle.truth.specs.Strategies.{Assignment, True}
use Rattle.truth.specs.Game.{Turns, Game}
use Rattle.truth.specs.Narrowing.{NarrowedAt, NarrowedTo}

-- y may depend on x, by the prefix: x is a universal, and the block of y is deeper than that of x.
pub record MayDepend (f : Formula) (x y : ℕ) : Type 0 where
  pub universal : universal f.n f.prefix x ≡ true
  pub deeper : level f.prefix x < level f.prefix y

-- the formula is true, where what may depend on what is given
abbrev pub TrueIf : Formula → (ℕ → ℕ → Type 0) → Type 0
TrueIf f may = True (is_existential f.n f.prefix) may (clauses f.clauses)

-- A formula holds if it is true by its prefix.
abbrev pub Holds : Formula → Type 0
Holds f = TrueIf f (MayDepend f)

-- It holds with every universal x narrowed to a set: only what may depend on x and is in the set of x may use it.
abbrev pub HoldsWithin : (ℕ → ℕ → Type 0) → Formula → Type 0
HoldsWithin Set f = TrueIf f (NarrowedTo Set (MayDepend f))

-- so with x alone narrowed
abbrev pub HoldsWithinAt : ℕ → (ℕ → Type 0) → Formula → Type 0
HoldsWithinAt x Set f = TrueIf f (NarrowedAt x Set (MayDepend f))

-- The turns of a formula's game: each of its variables has one, outer blocks first. A free variable is an existential of a block before all universals.
abbrev pub TurnsIn : Formula → List ℕ → Type 0
TurnsIn f = Turns (level f.prefix) f.n

-- Its game, with such turns, from an assignment on.
abbrev pub GameOf : Formula → List ℕ → Assignment → Type 0
GameOf f = Game (is_existential f.n f.prefix) (clauses f.clauses)
