-- When a formula is true that is lent with dependency lists (rule 13.1, rule 19.1).
use Rattle.std.specs.Prelude.{ℕ, ◌≡◌, true, List}
use Rattle.formula.specs.Lent.{Formula}
use Rattle.formula.specs.Meaning.{clauses}
use Rattle.forest_tables.specs.Formula.{universal}
use Rattle.dqbf_lists.specs.Lists.{ListHas}
use Rattle.truth.specs.Paths.{InPaths}
use Rattle.truth.specs.Narrowing.{NarrowedTo}
use Rattle.truth_formula.specs.Holds.{TrueIf}

-- y may depend on x, by the lists: x is a universal, and y's list has it.
pub record MayDependBy (f : Formula) (ds : List ℕ) (x y : ℕ) : Type 0 where
  pub universal : universal f.n f.prefix x ≡ true
  pub has : ListHas f.n f.prefix ds x y

-- A formula holds with its lists if it is true by them.
abbrev pub HoldsListed : Formula → List ℕ → Type 0
HoldsListed f ds = TrueIf f (MayDependBy f ds)

-- It holds so with every universal x narrowed to a set.
abbrev pub HoldsListedWithin : (ℕ → ℕ → Type 0) → Formula → List ℕ → Type 0
HoldsListedWithin Set f ds = TrueIf f (NarrowedTo Set (MayDependBy f ds))

-- y is in the resolution-path set of x: its list has x, and paths that pass existentials whose lists have x run to opposite literals of it.
abbrev pub ListedPaths : Formula → List ℕ → ℕ → ℕ → Type 0
ListedPaths f ds x = InPaths (clauses f.clauses) (ListHas f.n f.prefix ds x) x
