-- What depends on x by dependency lists, by either scheme (rule 13.2).
use Rattle.std.specs.Prelude.{ℕ, Bool, List}
use Rattle.terms.specs.declared.Scheme.{Scheme}
use Rattle.terms.specs.declared.Scheme.TheVariants.{Standard, Strict}
use Rattle.formula.specs.Lent.{Formula}
use Rattle.forest_theory.specs.Reach.{Reach, Follows}
use Rattle.forest_tables.specs.Formula.{Shares, SharesBy}
use Rattle.dqbf_lists.specs.Lists.{ListHas}

-- y depends on x: x is in y's list, and y is reached from x through existentials whose lists have x
pub record DependsOn (f : Formula) (ds : List ℕ) (x y : ℕ) : Type 0 where
  pub listed : ListHas f.n f.prefix ds x y
  pub reached : Reach (Shares f.clauses) (ListHas f.n f.prefix ds x) x y

-- and strictly: so reached first through a clause with x, and so reached first through a clause with its negation
pub record StrictlyDependsOn (f : Formula) (ds : List ℕ) (x y : ℕ) : Type 0 where
  pub by : (sign : Bool) → Follows (SharesBy f.clauses sign) (Shares f.clauses) (ListHas f.n f.prefix ds x) x y

-- by a scheme
abbrev pub DependsOnBy : Scheme → Formula → List ℕ → ℕ → ℕ → Type 0
DependsOnBy Standard f ds x = DependsOn f ds x
DependsOnBy Strict f ds x = StrictlyDependsOn f ds x
