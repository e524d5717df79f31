-- Narrowing with dependency lists: whose list has x can be told, and the three sets have the resolution-path set in them.
use Prim.Native.Nat.{ℕ}
use mathlib.Core.Path.{◌≡◌, refl, sym, subst}
use mathlib.Core.Bool.{Bool, true, false, not, Bool-discrete}
use mathlib.Core.List.{List, [], ◌∷◌, Memᴰ}
use mathlib.Core.Logic.Dec
use mathlib.Core.Logic.{◌⊎◌, inl, inr, ⊎_elim, ◌↔◌}
use native.Mathlib.Decide.{ℕ_discrete, dec_lt, map_dec}
use native.Mathlib.Omega.{arith}
use lib.IntN.{ℤ}
use Rattle.terms.specs.Literals.{variable_of}
use Rattle.terms.specs.declared.Scheme.{Scheme}
use Rattle.terms.specs.declared.Scheme.TheVariants.{Standard, Strict}
use Rattle.formula.specs.Lent.{Formula}
use Rattle.formula.specs.Meaning.{level, is_existential, clauses}
use Rattle.formula.specs.Tables.{at}
use Rattle.formula.proofs.Ordered.{named?}
use Rattle.forest_theory.specs.Reach.{here, step, Follows}
use Rattle.forest_theory.proofs.Reach.{reach_one, reach_trans}
use Rattle.forest_tables.specs.Formula.{universal, signed, Shares, SharesBy}
use Rattle.forest_entries.proofs.Sides.{signed_variable, shares_some}
use Rattle.dqbf_lists.specs.Lists.{lists, Bound, Given, ListHas}
use Rattle.dqbf_sets.specs.Depends.{DependsOnBy}
use Rattle.path_resolution.proofs.Marks.{complement_variable}
use Rattle.path_resolution.proofs.Within.{crosses_shares, crosses_signed}
use Rattle.truth.specs.Paths.{Way, enters, goes_on, MayUse}
use Rattle.truth.proofs.Decisions.{any, member?}
use Rattle.truth_formula.specs.Listed.{MayDependBy, HoldsListed, HoldsListedWithin, ListedPaths}
use Rattle.truth_formula.proofs.Narrowed.{InPathSet, crosses, within_all}

either? : {A B : Type 0} → Dec A → Dec B → Dec (A ⊎ B)
either? (yes a) d = yes (inl a)
either? (no n) (yes b) = yes (inr b)
either? (no n) (no m) = no (⊎_elim n m)

-- Whether v is in a block, and whether y has a list of its own that has x.
in-block? : (es : List ℕ) (v : ℕ) → Dec (Bound es v)
in-block? es v = ⊎_elim (λ k. let (e, _, there, is) = k in yes (e, there, is)) (λ n. no (λ k. let (e, there, is) = k in n (e, omega arith, there, is))) (named? es v)

-- a list is that of y, and has x
abbrev ListFor : ℕ → ℕ → List ℕ → Type 0
ListFor x y [] = ⊥
ListFor x y (z ∷ universals) = (z ≡ y) × Memᴰ x universals

list-for? : (x y : ℕ) (list : List ℕ) → Dec (ListFor x y list)
list-for? x y [] = no (λ n. n)
list-for? x y (z ∷ universals) = Dec.and (ℕ_discrete z y) (member? ℕ_discrete x universals)

given? : (ds : List ℕ) (x y : ℕ) → Dec (Given ds x y)
given? ds x y = map_dec (λ t. to t.0 t.1 t.2) (λ g. (y ∷ g.universals, g.listed, (refl, g.has_x))) (any (ListFor x y) (list-for? x y) (lists ds))
  where
    to : (list : List ℕ) → Memᴰ list (lists ds) → ListFor x y list → Given ds x y
    to [] m none = absurd none
    to (z ∷ universals) m (q, i) =
        record { universals = universals; listed = subst (λ (k : ℕ). Memᴰ (k ∷ universals) (lists ds)) q m; has_x = i }

module _ (f : Formula) (ds : List ℕ) where
  listed? : (x y : ℕ) → Dec (MayDependBy f ds x y)
  listed? x y = map_dec (λ p. record { universal = p.0; has = record { existential = p.1.0; listed = p.1.1 } })
      (λ d. (d.universal, (d.has.existential, d.has.listed)))
      (Dec.and (Bool-discrete (universal f.n f.prefix x) true) (Dec.and (Bool-discrete (is_existential f.n f.prefix y) true)
      (either? (Dec.and (in-block? f.prefix y) (dec_lt (level f.prefix x) (level f.prefix y))) (given? ds x y))))

  -- Paths pass existentials whose lists have x.
  passes : {x : ℕ} {a b : ℤ} → Way (clauses f.clauses) (MayUse (is_existential f.n f.prefix) (MayDependBy f ds) x) a b
      → Way (clauses f.clauses) (ListHas f.n f.prefix ds x) a b
  passes (enters c) = enters c
  passes (goes_on p e c) = goes_on (passes p) e.allowed.has c

  in_paths : (x y : ℕ) → InPathSet f (MayDependBy f ds) x y → ListedPaths f ds x y
  in_paths x y i = record { allowed = i.allowed.allowed.has; sign = i.sign; from_x = passes i.from_x; from_negation = passes i.from_negation }

  -- A path from a literal of x leads, clause by clause, along steps that the strict scheme takes.
  follows : (sign : Bool) {x : ℕ} {l : ℤ} → Way (clauses f.clauses) (ListHas f.n f.prefix ds x) (signed sign x) l
      → ListHas f.n f.prefix ds x (variable_of l)
      → Follows (SharesBy f.clauses sign) (Shares f.clauses) (ListHas f.n f.prefix ds x) x (variable_of l)
  follows sign {x} {l} (enters c) h = record { first = variable_of l; starts = crosses_signed sign x (crosses f c); allowed = h; onward = here }
  follows sign {x} {l} (goes_on {at = at} p passed c) h =
      let s = follows sign p passed in
      let shares = subst (λ (v : ℕ). Shares f.clauses v (variable_of l)) (complement_variable at) (crosses_shares (crosses f c)) in
      record { first = s.first; starts = s.starts; allowed = s.allowed; onward = step s.onward shares h }

  in_strict : (x y : ℕ) → ListedPaths f ds x y → DependsOnBy Strict f ds x y
  in_strict x y i = record { by = by }
    where
      FollowsBy : Bool → ℕ → Type 0
      FollowsBy sign = Follows (SharesBy f.clauses sign) (Shares f.clauses) (ListHas f.n f.prefix ds x) x

      to : (sign end : Bool) → Way (clauses f.clauses) (ListHas f.n f.prefix ds x) (signed sign x) (signed end y) → FollowsBy sign y
      to sign end w =
          let q = signed_variable end y in
          subst (FollowsBy sign) q (follows sign w (subst (ListHas f.n f.prefix ds x) (sym q) i.allowed))

      by : (sign : Bool) → FollowsBy sign y
      by true = to true i.sign i.from_x
      by false = to false (not i.sign) i.from_negation

  in_sets : (scheme : Scheme) (x y : ℕ) → ListedPaths f ds x y → DependsOnBy scheme f ds x y
  in_sets Strict x y i = in_strict x y i
  in_sets Standard x y i =
      let s = (in_strict x y i).by true in
      record { listed = i.allowed; reached = reach_trans (reach_one (shares_some true s.starts) s.allowed) s.onward }

  pub listed_sets : (scheme : Scheme) → HoldsListed f ds ↔ HoldsListedWithin (DependsOnBy scheme f ds) f ds
  listed_sets scheme = within_all f listed? (λ x y d. d.universal) (DependsOnBy scheme f ds) (λ x y d i. in_sets scheme x y (in_paths x y i))

  pub listed_paths : HoldsListed f ds ↔ HoldsListedWithin (ListedPaths f ds) f ds
  listed_paths = within_all f listed? (λ x y d. d.universal) (ListedPaths f ds) (λ x y d i. in_paths x y i)
