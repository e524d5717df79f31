-- Clauses over the prefix of formula A reduced, by computing: blocks e 1 2, a 3, e 4 5, a 6, e 7 8 9. And that two readings which look right are wrong:
-- dropping a universal that is deeper than some existential of its clause, and reducing a clause that is always true.
use Prim.Native.Nat.{ℕ}
use mathlib.Core.Path.{◌≡◌, refl, sym, subst}
use mathlib.Core.List.Memᴰ
use mathlib.Core.List.Permᴰ
use mathlib.Core.List.{List, [], ◌∷◌, Memᴰ}
use mathlib.Core.Logic.Iff
use mathlib.Core.Logic.{inl, inr, ◌↔◌}
use native.Mathlib.Omega.{arith}
use lib.IntN.{ℤ, pos, negsuc}
use Rattle.formula.specs.Tables.{cut}
use Rattle.formula.specs.Meaning.{blocks, clauses, opposite, denied, always_true, connected, level, is_universal, is_existential}
use Rattle.formula.specs.InnerLevels.{free_level}
use Rattle.forest_theory.specs.Reach.{Variables, Depends}
use Rattle.forest_theory.specs.InnerSearch.{has, meets, keep, put_back, find, see, spread, reached, is_from, sift, set_of}
use Rattle.forest_theory.proofs.Search.{set_of_depends}
use Rattle.forest_tables.specs.Formula.{variables, joined, Shares}
use Rattle.forest_tables.proofs.Agreeing.{lawful}
use Rattle.grow_reduced.specs.Reduced.{deeper_than_all, reducible, dropped, reduced_clause, Reduction}

abbrev es : List ℕ
es = 1 ∷ 1 ∷ 2 ∷ 0 ∷ 2 ∷ 3 ∷ 0 ∷ 1 ∷ 4 ∷ 5 ∷ 0 ∷ 2 ∷ 6 ∷ 0 ∷ 1 ∷ 7 ∷ 8 ∷ 9 ∷ 0 ∷ []

abbrev A : Variables
A = variables 9 es

-- {6 9} {5 -6} {1 3 6} {5 6 -6}, and the same with 6 dropped from the second and 3 and 6 from the third, in another order: {5} {1} {5 6 -6} {6 9}
abbrev ls : List ℤ
ls = pos 6 ∷ pos 9 ∷ pos 0 ∷ pos 5 ∷ negsuc 5 ∷ pos 0 ∷ pos 1 ∷ pos 3 ∷ pos 6 ∷ pos 0 ∷ pos 5 ∷ pos 6 ∷ negsuc 5 ∷ pos 0 ∷ []

abbrev ls' : List ℤ
ls' = pos 5 ∷ pos 0 ∷ pos 1 ∷ pos 0 ∷ pos 5 ∷ pos 6 ∷ negsuc 5 ∷ pos 0 ∷ pos 6 ∷ pos 9 ∷ pos 0 ∷ []

-- {5 6 9}, in which 6 is deeper than 5 and not deeper than 9, and what is left without 6
abbrev some : List ℤ
some = pos 5 ∷ pos 6 ∷ pos 9 ∷ pos 0 ∷ []

abbrev some_less : List ℤ
some_less = pos 5 ∷ pos 9 ∷ pos 0 ∷ []

-- {3 4} {4 5 6 -6}, the second of which is always true, and what is left without 6 and -6
abbrev always : List ℤ
always = pos 3 ∷ pos 4 ∷ pos 0 ∷ pos 4 ∷ pos 5 ∷ pos 6 ∷ negsuc 5 ∷ pos 0 ∷ []

abbrev always_less : List ℤ
always_less = pos 3 ∷ pos 4 ∷ pos 0 ∷ pos 4 ∷ pos 5 ∷ pos 0 ∷ []

-- What antt computes: clauses reduced, and sets.
record Computed : Type 0 where
  kept : reduced_clause A (pos 6 ∷ pos 9 ∷ []) ≡ pos 6 ∷ pos 9 ∷ []
  one : reduced_clause A (pos 5 ∷ negsuc 5 ∷ []) ≡ pos 5 ∷ []
  two : reduced_clause A (pos 1 ∷ pos 3 ∷ pos 6 ∷ []) ≡ pos 1 ∷ []
  all : reduced_clause A (pos 3 ∷ negsuc 5 ∷ []) ≡ []
  stays : reduced_clause A (pos 5 ∷ pos 6 ∷ negsuc 5 ∷ []) ≡ pos 5 ∷ pos 6 ∷ negsuc 5 ∷ []
  set_some : set_of A (joined some) 6 ≡ 9 ∷ []
  set_some_less : set_of A (joined some_less) 6 ≡ []
  set_always : set_of A (joined always) 3 ≡ 4 ∷ []
  set_always_less : set_of A (joined always_less) 3 ≡ 4 ∷ 5 ∷ []

computed : Computed
unfolding blocks clauses opposite denied always_true connected free_level level is_universal is_existential cut has meets keep put_back find see spread
    reached is_from sift set_of joined deeper_than_all reducible dropped reduced_clause
computed = record { kept = refl; one = refl; two = refl; all = refl; stays = refl; set_some = refl; set_some_less = refl; set_always = refl; set_always_less = refl }

-- The set is what was computed.
set_by : (cs : List ℤ) {x : ℕ} {ys : List ℕ} → set_of A (joined cs) x ≡ ys → (y : ℕ) → Depends A (Shares cs) x y ↔ Memᴰ y ys
set_by cs {x} e y = subst (λ (l : List ℕ). Depends A (Shares cs) x y ↔ Memᴰ y l) e (Iff.symm (set_of_depends (lawful 9 es)))

pub record Sampled : Type 0 where
  -- In {6 9} the existential 9 is deeper than 6, which stays; in {5 -6} the universal is deeper, and goes, as both go in {1 3 6}, and all in {3 -6}.
  pub kept : reduced_clause A (pos 6 ∷ pos 9 ∷ []) ≡ pos 6 ∷ pos 9 ∷ []
  pub one : reduced_clause A (pos 5 ∷ negsuc 5 ∷ []) ≡ pos 5 ∷ []
  pub two : reduced_clause A (pos 1 ∷ pos 3 ∷ pos 6 ∷ []) ≡ pos 1 ∷ []
  pub all : reduced_clause A (pos 3 ∷ negsuc 5 ∷ []) ≡ []
  -- A clause that is always true stays.
  pub stays : reduced_clause A (pos 5 ∷ pos 6 ∷ negsuc 5 ∷ []) ≡ pos 5 ∷ pos 6 ∷ negsuc 5 ∷ []
  -- The two tables of clauses: one is a reduction of the other.
  pub reduction : Reduction A ls ls'
  -- A universal that is deeper than only some of the existentials of its clause: dropped, it loses what depends on it.
  pub some_deeper : Depends A (Shares some) 6 9
  pub some_dropped : Depends A (Shares some_less) 6 9 → ⊥
  -- A clause that is always true, reduced: it joins what it did not join.
  pub is_always_true : Depends A (Shares always) 3 5 → ⊥
  pub always_reduced : Depends A (Shares always_less) 3 5

pub sampled : Sampled
unfolding clauses cut
sampled =
    record {
      kept = computed.kept;
      one = computed.one;
      two = computed.two;
      all = computed.all;
      stays = computed.stays;
      reduction = record {
        in_place = (pos 6 ∷ pos 9 ∷ []) ∷ (pos 5 ∷ []) ∷ (pos 1 ∷ []) ∷ (pos 5 ∷ pos 6 ∷ negsuc 5 ∷ []) ∷ [];
        reduces = (inl refl, (inr (sym computed.one), (inr (sym computed.two), (inl refl, tt))));
        reordered = Permᴰ.trans (Permᴰ.swap refl refl)
            (Permᴰ.cons refl (Permᴰ.trans (Permᴰ.swap refl refl) (Permᴰ.cons refl (Permᴰ.swap refl refl))));
      };
      some_deeper = (set_by some computed.set_some 9).1 (Memᴰ.head refl);
      some_dropped = λ d. Memᴰ.not-nil ((set_by some_less computed.set_some_less 9).0 d);
      is_always_true = λ d. let q = Memᴰ.eq_of_singleton ((set_by always computed.set_always 5).0 d) in omega arith;
      always_reduced = (set_by always_less computed.set_always_less 5).1 (Memᴰ.tail (Memᴰ.head refl));
    }
