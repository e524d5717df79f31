-- The way to a root, halved as it is walked: what is known at each row where it stops.
use Prim.Native.Nat.{ℕ, ◌≤◌, ◌<◌}
use mathlib.Core.Path.{◌≡◌, refl, sym, ◌∙◌, subst}
use mathlib.Core.Bool.{true}
use mathlib.Core.List.{List}
use mathlib.Core.Logic.{◌≢◌, by_cases}
use native.Mathlib.Decide.{ℕ_discrete}
use native.Mathlib.Omega.{arith}
use lib.ListN.{length, get_or, set, length-set}
use lib.Seq.{get_or-set_same, get_or-set_other}
use Rattle.terms.specs.InnerLimits.{variable_rows}
use Rattle.forest_theory.specs.Reach.{Variables, From, Reach, here}
use Rattle.forest_theory.specs.Tables.{Table}
use Rattle.forest_theory.proofs.Reach.{reach_one, reach_trans}
use Rattle.forest_theory.proofs.Represent.{to_class, Linked, up}
use Rattle.grow_union_find.specs.InnerLoose.{Loose, Kept, Falling, table}
use Rattle.grow_union_find.proofs.Inside.{inside_reach, equal_refl, equal_trans}
use Rattle.grow_union_find.proofs.Relinked.{halved}

-- Rows that are left as they are stand for the same, and standing for the same is transitive.
pub kept_none : {X : Variables} {W : Table} → Loose X W → Kept X W W
kept_none loose = record { loose = loose; equal = equal_refl; roots = λ u r. r }

pub kept_trans : {X : Variables} {W W' W'' : Table} → Kept X W W' → Kept X W' W'' → Kept X W W''
kept_trans k l = record { loose = l.loose; equal = equal_trans k.equal l.equal; roots = λ u r. l.roots u (k.roots u r) }

-- A row that pointed elsewhere is pointed one further.
pub halved_row : (X : Variables) (C P : List ℕ) (v : ℕ) → Loose X (table C P) → X.ex v ≡ true → get_or C v 0 ≢ v → v < length C
    → Kept X (table C P) (table (set C v (get_or C (get_or C v 0) 0)) P)
halved_row X C P v loose ex other l =
    halved loose v ex other (get_or-set_same C v (get_or C (get_or C v 0) 0) 0 l) (λ u d. get_or-set_other C v u (get_or C (get_or C v 0) 0) 0 d) (λ u. refl)

-- `at` is on the way from v to its root.
pub record OnWay (X : Variables) (W W' : Table) (v at : ℕ) : Type 0 where
  pub kept : Kept X W W'
  pub existential : X.ex at ≡ true
  pub block : X.lev at ≡ X.lev v
  pub reached : Reach (Linked X W') (From X (X.lev v)) v at

-- The way from v has come to the row `at`, which points to `next`; it was halved so far.
pub record Halving (C₀ : List ℕ) (v : ℕ) (C : List ℕ) (at next : ℕ) : Type 0 where
  pub falling : Falling C at
  pub points : next ≡ get_or C at 0
  pub way : (X : Variables) (P : List ℕ) → Loose X (table C₀ P) → X.ex v ≡ true → OnWay X (table C₀ P) (table C P) v at

pub halve_none : {C : List ℕ} {v : ℕ} → Falling C v → Halving C v C v (get_or C v 0)
halve_none f = record { falling = f; points = refl; way = λ X P loose ex. record { kept = kept_none loose; existential = ex; block = refl; reached = here } }

module _ {C₀ : List ℕ} {v : ℕ} {C : List ℕ} {at next : ℕ} (f : Halving C₀ v C at next) where
  -- The row `at`, the one that it points to, and the one after that have rows, each not higher than the one before it.
  pub way_rows : (at < length C) × (next ≤ at) × (get_or C next 0 ≤ next) × (length C ≡ variable_rows)
  way_rows = (omega (arith, f.falling.within, f.falling.size), omega (arith, f.points, f.falling.falls at), f.falling.falls next, f.falling.size)

  -- One further: the row `at` is pointed past `next`.
  pub halve_one : next ≢ at → let C' = set C at (get_or C next 0) in Halving C₀ v C' (get_or C next 0) (get_or C' (get_or C next 0) 0)
  halve_one other = record {
    falling = record { size = length-set C at x ∙ f.falling.size; falls = falls; within = omega (arith, least, f.falling.within) };
    points = refl;
    way = way;
  }
    where
      x : ℕ
      x = get_or C next 0

      q : get_or C at 0 ≡ next
      q = sym f.points

      inside : at < length C
      inside = way_rows.0

      least : x ≤ at
      least = omega (arith, way_rows.1, way_rows.2)

      falls : (u : ℕ) → get_or (set C at x) u 0 ≤ u
      falls u = by_cases (ℕ_discrete u at)
          (λ e. subst (λ (w : ℕ). get_or (set C at x) w 0 ≤ w) (sym e) (omega (arith, get_or-set_same C at x 0 inside, least)))
          (λ d. omega (arith, get_or-set_other C at u x 0 d, f.falling.falls u))

      way : (X : Variables) (P : List ℕ) → Loose X (table C₀ P) → X.ex v ≡ true → OnWay X (table C₀ P) (table (set C at x) P) v x
      way X P loose ex =
          let g = f.way X P loose ex in
          let k : Kept X (table C P) (table (set C at x) P) =
          subst (λ (w : ℕ). Kept X (table C P) (table (set C at (get_or C w 0)) P)) q
          (halved_row X C P at g.kept.loose g.existential (λ e. other (f.points ∙ e)) inside) in
          let one = g.kept.loose.class at g.existential in
          let two = g.kept.loose.class (get_or C at 0) one.existential in
          let ex' : X.ex x ≡ true = subst (λ (w : ℕ). X.ex (get_or C w 0) ≡ true) q two.existential in
          let block : X.lev x ≡ X.lev v = subst (λ (w : ℕ). X.lev (get_or C w 0) ≡ X.lev v) q (two.block ∙ one.block ∙ g.block) in
          record {
            kept = kept_trans g.kept k;
            existential = ex';
            block = block;
            reached = reach_trans (inside_reach k.equal.there (record { existential = ex; deep = omega arith }) g.reached)
                (reach_one (up (to_class g.existential (get_or-set_same C at x 0 inside))) (record { existential = ex'; deep = omega (arith, block) }));
          }
