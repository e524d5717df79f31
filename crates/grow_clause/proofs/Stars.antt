-- A clause put in as a star: pairs around its deepest existential. At every level the pairs reach what the clause joins, since whatever the level
-- allows it allows the deepest too.
use Prim.Native.Nat.{ℕ, zero, suc, ◌+◌, ◌≤◌, ◌<◌, suc-le-suc}
use mathlib.Core.Path.{◌≡◌, refl, sym, ap, subst}
use mathlib.Core.Bool.{true}
use mathlib.Core.List.Memᴰ
use mathlib.Core.List.{List, [], ◌∷◌, map, Memᴰ}
use mathlib.Core.Logic.{◌⊎◌, ⊎_elim, ◌≢◌}
use native.Mathlib.Nat.{not-suc-le-zero, le_of_suc-le-suc}
use native.Mathlib.Numerals.{add-one}
use native.Mathlib.Omega.{arith}
use lib.IntN.{ℤ}
use lib.ListN.{length, get_or}
use Rattle.terms.specs.Literals.{variable_of}
use Rattle.terms.proofs.Common.{below_suc}
use Rattle.forest_theory.specs.Reach.{Variables, From, Reach, here}
use Rattle.forest_theory.specs.InnerGrowth.{added, Added}
use Rattle.forest_theory.proofs.Reach.{reach_one, reach_trans, reach_sym, reach_mono, from_less}
use Rattle.forest_theory.proofs.Represent.{linked_sym}
use Rattle.grow_union_find.specs.InnerLoose.{Inside, ranked, links, Growing, Pending, Grew}
use Rattle.grow_union_find.proofs.Inside.{inside_reach, inside_refl, inside_trans, inside_before, inside_clause, inside_pair, pair_step, both_sym}
use Rattle.grow_union_find.proofs.Steps.{deep_some, some_deep}
use Rattle.grow_clause.specs.InnerDeepest.{variable_in, Deepest}

-- The variable at an entry is one of the clause, and each of the clause stands at an entry.
pub at_member : (ls : List ℤ) (e : ℕ) → e < length ls → Memᴰ (variable_in ls e) (map variable_of ls)
at_member [] e l = absurd (not-suc-le-zero l)
at_member (x ∷ ls) zero l = Memᴰ.head refl
at_member (x ∷ ls) (suc e) l = Memᴰ.tail (at_member ls e (le_of_suc-le-suc l))

pub member_at : (ls : List ℤ) (v : ℕ) → Memᴰ v (map variable_of ls) → (e : ℕ) × (e < length ls) × (variable_in ls e ≡ v)
member_at [] v m = absurd (Memᴰ.not-nil m)
member_at (x ∷ ls) v m = ⊎_elim (λ q. (zero, omega arith, sym q)) (λ t. let (e, l, q) = member_at ls v t in (suc e, suc-le-suc l, q))
    (Memᴰ.cases_cons m)

-- The first i entries are looked at, and `found`, of the depth `depth`, is the deepest of them.
pub record Sought (depths : List ℕ) (ls : List ℤ) (found depth i : ℕ) : Type 0 where
  pub depth_is : depth ≡ get_or depths found 0
  pub most : (e : ℕ) → e < i → get_or depths (variable_in ls e) 0 ≤ get_or depths found 0
  pub listed : get_or depths found 0 ≢ 0 → (e : ℕ) × (e < length ls) × (variable_in ls e ≡ found)

-- A clause that connects nothing changes nothing.
pub grew_none : {depths C P : List ℕ} → Growing depths C P → Grew depths C P [] C P
grew_none g = record {
  growing = g;
  equal = record { there = inside_clause inside_refl (λ k a b fa fb l m. absurd (Memᴰ.not-nil l)); back = inside_before };
}

-- d reaches the variable v at the depth of v, if that is existential.
abbrev TiedTo : List ℕ → List ℕ → List ℕ → ℕ → ℕ → Type 0
TiedTo depths C P d v = (ranked depths).ex v ≡ true → Reach (links depths C P) (From (ranked depths) (get_or depths v 0)) d v

-- The first i existentials of the clause are joined to the deepest, d.
pub record Joining (depths C₀ P₀ : List ℕ) (ls : List ℤ) (d : ℕ) (C P : List ℕ) (i : ℕ) : Type 0 where
  pub growing : Growing depths C P
  pub sound : Inside (ranked depths) (links depths C P) (Added (links depths C₀ P₀) (map variable_of ls))
  pub complete : Inside (ranked depths) (links depths C₀ P₀) (links depths C P)
  pub star : (e : ℕ) → e < i → TiedTo depths C P d (variable_in ls e)

pub join_none : {depths C P : List ℕ} (ls : List ℤ) (d : ℕ) → Growing depths C P → Joining depths C P ls d C P 0
join_none ls d g = record { growing = g; sound = inside_before; complete = inside_refl; star = λ e l. absurd (omega arith) }

-- Where an entry is an existential, so is the deepest.
deep_ex : {depths : List ℕ} {ls : List ℤ} {d : ℕ} → Deepest depths ls d → (e : ℕ) → e < length ls → (ranked depths).ex (variable_in ls e) ≡ true
    → (ranked depths).ex d ≡ true
deep_ex {depths} {ls} {d} deepest e l ex =
    some_deep depths d (let z = deepest.most e l in let n = deep_some depths (variable_in ls e) ex in omega arith)

-- Entry i comes next.
module _ {depths C₀ P₀ : List ℕ} {ls : List ℤ} {d : ℕ} {C P : List ℕ} {i : ℕ} (deepest : Deepest depths ls d) (j : Joining depths C₀ P₀ ls d C P i)
    (more : i < length ls) where
  abbrev X : Variables
  X = ranked depths

  -- its variable
  abbrev v : ℕ
  v = variable_in ls i

  -- An existential can be joined to d.
  pub join_pending : get_or depths v 0 ≢ 0 → Pending depths d v
  join_pending n =
      let most : get_or depths v 0 ≤ get_or depths d 0 = deepest.most i more in
      record { deep = some_deep depths d (omega arith); other = λ _. some_deep depths v n; order = most }

  -- What is tied to d already is passed over ...
  join_over : TiedTo depths C P d v → Joining depths C₀ P₀ ls d C P (i + 1)
  join_over tied =
      rw (add-one i)
      record {
        growing = j.growing;
        sound = j.sound;
        complete = j.complete;
        star = below_suc (λ e. TiedTo depths C P d (variable_in ls e)) i j.star tied;
      }

  -- ... that is, what is no existential, and the deepest itself.
  pub join_past : (get_or depths v 0 ≡ 0) ⊎ ((get_or depths v 0 ≢ 0) × (v ≡ d)) → Joining depths C₀ P₀ ls d C P (i + 1)
  join_past past = join_over (⊎_elim (λ z ex. absurd (omega (arith, deep_some depths v ex)))
      (λ (_, own) ex. subst (λ (w : ℕ). Reach (links depths C P) (From X (get_or depths w 0)) d w) (sym own) here) past)

  -- Any other is joined to d, and ties before it stay.
  pub join_one : {C' P' : List ℕ} → get_or depths v 0 ≢ 0 → Grew depths C P (d ∷ v ∷ []) C' P' → Joining depths C₀ P₀ ls d C' P' (i + 1)
  join_one {C'} {P'} n g =
      rw (add-one i)
      record {
        growing = g.growing;
        sound = inside_trans g.equal.back (inside_pair both_sym j.sound (λ k fd fv. reach_one (added listed (at_member ls i more)) fv));
        complete = inside_trans j.complete onward;
        star = below_suc (λ e. TiedTo depths C' P' d (variable_in ls e)) i
            (λ e l ex. inside_reach onward (deep_from e (omega (arith, more)) ex) (j.star e l ex)) (λ _. fresh);
      }
    where
      onward : Inside X (links depths C P) (links depths C' P')
      onward = inside_trans inside_before g.equal.there

      deep_from : (e : ℕ) → e < length ls → X.ex (variable_in ls e) ≡ true → From X (get_or depths (variable_in ls e) 0) d
      deep_from e l ex = record { existential = deep_ex deepest e l ex; deep = deepest.most e l }

      pending : Pending depths d v
      pending = join_pending n

      fresh : Reach (links depths C' P') (From X (get_or depths v 0)) d v
      fresh =
          let f : From X (get_or depths v 0) v = record { existential = some_deep depths v n; deep = omega arith } in
          inside_reach g.equal.there (record { existential = pending.deep; deep = pending.order }) (pair_step f)

      listed : Memᴰ d (map variable_of ls)
      listed =
          let (e, l, q) = deepest.listed (omega (arith, pending.order)) in
          subst (λ (w : ℕ). Memᴰ w (map variable_of ls)) q (at_member ls e l)

module _ {depths C₀ P₀ : List ℕ} {ls : List ℤ} {d : ℕ} {C P : List ℕ} {i : ℕ} (deepest : Deepest depths ls d) (j : Joining depths C₀ P₀ ls d C P i) where
  abbrev D : Variables
  D = ranked depths

  -- All are joined: the rows have the clause.
  pub joined_all : length ls ≤ i → Grew depths C₀ P₀ (map variable_of ls) C P
  joined_all done = record { growing = j.growing; equal = record { there = inside_clause j.complete pairs; back = j.sound } }
    where
      from_d : (k a : ℕ) → From D k a → Memᴰ a (map variable_of ls) → From D k d × Reach (links depths C P) (From D k) d a
      from_d k a f m =
          let (e, l, q) = member_at ls a m in
          let ex : D.ex (variable_in ls e) ≡ true = rw q f.existential in
          let level = ap (λ (w : ℕ). get_or depths w 0) q in (
            record { existential = deep_ex deepest e l ex; deep = omega (arith, f.deep, deepest.most e l) },
            subst (λ (w : ℕ). Reach (links depths C P) (From D k) d w) q
                (reach_mono (λ u w s. s) (λ w s. from_less (omega (arith, f.deep)) s) (j.star e (omega arith) ex)),
          )

      pairs : (k a b : ℕ) → From D k a → From D k b → Memᴰ a (map variable_of ls) → Memᴰ b (map variable_of ls)
          → Reach (links depths C P) (From D k) a b
      pairs k a b fa fb l m = let (fd, one) = from_d k a fa l in let (fd', two) = from_d k b fb m in reach_trans (reach_sym linked_sym fd one) two
