-- The standard set serves, and so do the strict set and the resolution-path set.
use Prim.Native.Nat.{ℕ}
use mathlib.Core.Path.{◌≡◌}
use mathlib.Core.Bool.{true}
use mathlib.Core.List.{List}
use native.Mathlib.Omega.{arith}
use Rattle.terms.specs.Listed.{Listed}
use Rattle.terms.specs.declared.Scheme.{Scheme}
use Rattle.terms.specs.declared.Scheme.TheVariants.{Standard, Strict}
use Rattle.formula.specs.Lent.{Formula}
use Rattle.formula.specs.Meaning.{level}
use Rattle.forest_theory.specs.Reach.{From}
use Rattle.forest_theory.proofs.Reach.{depends_follows, reach_ends}
use Rattle.forest_tables.specs.Formula.{universal}
use Rattle.forest_tables.specs.Lent.{variables_of}
use Rattle.forest.specs.Answers.{DependsBy}
use Rattle.forest.proofs.Demands.{universal_alone}
use Rattle.path_resolution.specs.Paths.{DependsByPaths}
use Rattle.truth.proofs.Claims.{more_may_depend}
use Rattle.truth_formula.proofs.Narrowed.{paths_at, sets_at}
use Rattle.truth_expand.specs.Serves.{Serves}

module _ (f : Formula) (x : ℕ) (u : universal f.n f.prefix x ≡ true) where
  -- What either scheme steps on from x is deeper than x.
  deep : (scheme : Scheme) (y : ℕ) → DependsBy scheme f x y → From (variables_of f) (level f.prefix x) y
  deep Standard y d = let s = (depends_follows (universal_alone f.n f.prefix x u)).0 d in reach_ends s.allowed s.onward
  deep Strict y d = let s = d.by true in reach_ends s.allowed s.onward

  pub sets_serve : (scheme : Scheme) (members : List ℕ) → Listed (DependsBy scheme f x) members → Serves f x members
  sets_serve scheme members set =
      record {
        ascending = set.ascending;
        existential = λ y i. (deep scheme y (set.each y i)).existential;
        may_depend = λ y i.
            let d = deep scheme y (set.each y i) in
            let apart = (universal_alone f.n f.prefix x u).alone y d.existential in
            let from = d.deep in
            record { universal = u; deeper = omega arith };
        narrowed = λ t. more_may_depend (λ z y g e p. (p.0, λ q. set.all y (p.1 q))) ((sets_at f scheme x).0 t);
      }

  pub paths_serve : (members : List ℕ) → Listed (DependsByPaths (variables_of f) f.clauses x) members → Serves f x members
  paths_serve members set =
      record {
        ascending = set.ascending;
        existential = λ y i. (set.each y i).deeper.existential;
        may_depend = λ y i. record { universal = u; deeper = (set.each y i).deeper.deep };
        narrowed = λ t. more_may_depend (λ z y g e p. (p.0, λ q. set.all y (p.1 q))) ((paths_at f x).0 t);
      }
