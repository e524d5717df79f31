-- Narrowing to the sets of a formula as lent. Every set of the three has the resolution-path set in it, so that one lemma serves them all.
use Prim.Native.Nat.{ℕ}
use mathlib.Core.Path.{◌≡◌, subst}
use mathlib.Core.Bool.{true, false, Bool-discrete}
use mathlib.Core.List.{Memᴰ}
use mathlib.Core.Logic.Dec
use mathlib.Core.Logic.{◌↔◌}
use native.Mathlib.Decide.{dec_lt, map_dec}
use lib.IntN.{ℤ}
use Rattle.terms.specs.declared.Scheme.{Scheme}
use Rattle.terms.specs.declared.Scheme.TheVariants.{Standard, Strict}
use Rattle.formula.specs.Lent.{Formula}
use Rattle.formula.specs.Meaning.{level, is_existential, clauses}
use Rattle.forest_theory.specs.Reach.{Deeper}
use Rattle.forest_theory.proofs.Strict.{strict_within}
use Rattle.forest_tables.specs.Formula.{universal}
use Rattle.forest_tables.specs.Lent.{variables_of}
use Rattle.forest_tables.proofs.Agreeing.{universal_within}
use Rattle.forest_entries.proofs.Sides.{shares_some}
use Rattle.forest.specs.Answers.{DependsBy}
use Rattle.forest.proofs.Demands.{universal_alone}
use Rattle.path_resolution.specs.Paths.{Crosses, Path, enters, goes_on, DependsByPaths}
use Rattle.path_resolution.proofs.Within.{paths_strict}
use Rattle.truth.specs.Paths.{Crossing, Way, MayUse, PathSet}
use Rattle.truth.specs.Narrowing.{NarrowedAt, NarrowedTo}
use Rattle.truth.proofs.Claims.{more_may_depend, one_narrowed, all_narrowed}
use Rattle.truth.proofs.Narrowing.{numbers, numbers_all}
use Rattle.truth_formula.specs.Holds.{MayDepend, TrueIf, Holds, HoldsWithin, HoldsWithinAt}

-- y is in the resolution-path set of x, where what may depend on what is given
abbrev pub InPathSet : Formula → (ℕ → ℕ → Type 0) → ℕ → ℕ → Type 0
InPathSet f may = PathSet (is_existential f.n f.prefix) may (clauses f.clauses)

-- For anything of which it can be told what may depend on what, on universals alone.
module _ (f : Formula) {may : ℕ → ℕ → Type 0} (decide : (x y : ℕ) → Dec (may x y))
    (on-universals : (x y : ℕ) → may x y → universal f.n f.prefix x ≡ true) where
  pub within_at : (x : ℕ) (Set : ℕ → Type 0) → ((y : ℕ) → may x y → InPathSet f may x y → Set y)
      → TrueIf f may ↔ TrueIf f (NarrowedAt x Set may)
  within_at x Set wider = (
    λ t. more_may_depend (λ z y u e p. (p.0, λ q. wider y (subst (λ (k : ℕ). may k y) q p.0) (p.1 q))) ((one_narrowed decide x).0 t),
    more_may_depend (λ z y u e p. p.0),
  )

  pub within_all : (Set : ℕ → ℕ → Type 0) → ((x y : ℕ) → may x y → InPathSet f may x y → Set x y)
      → TrueIf f may ↔ TrueIf f (NarrowedTo Set may)
  within_all Set wider = (
    λ t. more_may_depend (λ x y u e p. (p.0, wider x y p.0 p.1)) ((all_narrowed decide (numbers f.n) listed).0 t),
    more_may_depend (λ x y u e p. p.0),
  )
    where
      listed : (x y : ℕ) → is_existential f.n f.prefix x ≡ false → is_existential f.n f.prefix y ≡ true → may x y → Memᴰ x (numbers f.n)
      listed x y u e m = let (a, b, _) = universal_within f.n f.prefix x (on-universals x y m) in numbers_all f.n x a b

-- By the prefix.
module _ (f : Formula) where
  pub depend? : (x y : ℕ) → Dec (MayDepend f x y)
  depend? x y = map_dec (λ p. record { universal = p.0; deeper = p.1 }) (λ d. (d.universal, d.deeper))
      (Dec.and (Bool-discrete (universal f.n f.prefix x) true) (dec_lt (level f.prefix x) (level f.prefix y)))

  -- Paths for any clauses are paths of the formula.
  pub crosses : {a b : ℤ} → Crossing (clauses f.clauses) a b → Crosses f.clauses a b
  crosses c =
      record { clause = c.clause; listed = c.listed; takes_part = c.takes_part; entered = c.entered; left = c.left; another = c.another }

  deep : {x y : ℕ} → MayUse (is_existential f.n f.prefix) (MayDepend f) x y → Deeper (variables_of f) x y
  deep m = record { existential = m.existential; deep = m.allowed.deeper }

  path : {x : ℕ} {a b : ℤ} → Way (clauses f.clauses) (MayUse (is_existential f.n f.prefix) (MayDepend f) x) a b → Path (variables_of f) f.clauses x a b
  path (Way.enters c) = enters (crosses c)
  path (Way.goes_on p e c) = goes_on (path p) (deep e) (crosses c)

  in_paths : (x y : ℕ) → InPathSet f (MayDepend f) x y → DependsByPaths (variables_of f) f.clauses x y
  in_paths x y i = record { deeper = deep i.allowed; sign = i.sign; from_x = path i.from_x; from_negation = path i.from_negation }

  in_sets : (scheme : Scheme) (x y : ℕ) → universal f.n f.prefix x ≡ true
      → InPathSet f (MayDepend f) x y → DependsBy scheme f x y
  in_sets Strict x y u i = paths_strict f (in_paths x y i)
  in_sets Standard x y u i =
      strict_within (λ sign z. shares_some sign) (universal_alone f.n f.prefix x u) (paths_strict f (in_paths x y i))

  pub paths_at : (x : ℕ) → Holds f ↔ HoldsWithinAt x (DependsByPaths (variables_of f) f.clauses x) f
  paths_at x = within_at f depend? (λ z y d. d.universal) x (DependsByPaths (variables_of f) f.clauses x) (λ y d i. in_paths x y i)

  pub sets_at : (scheme : Scheme) (x : ℕ) → Holds f ↔ HoldsWithinAt x (DependsBy scheme f x) f
  sets_at scheme x = within_at f depend? (λ z y d. d.universal) x (DependsBy scheme f x) (λ y d i. in_sets scheme x y d.universal i)

  pub wider_all : (Set : ℕ → ℕ → Type 0) → ((x y : ℕ) → DependsByPaths (variables_of f) f.clauses x y → Set x y) → Holds f ↔ HoldsWithin Set f
  wider_all Set wider = within_all f depend? (λ z y d. d.universal) Set (λ x y d i. wider x y (in_paths x y i))

  pub sets_all : (scheme : Scheme) → Holds f ↔ HoldsWithin (DependsBy scheme f) f
  sets_all scheme = within_all f depend? (λ z y d. d.universal) (DependsBy scheme f) (λ x y d i. in_sets scheme x y d.universal i)
