-- Resolution-path sets on a small formula, by computing: a 1, e 2 3 4, clauses {1 2} {-2 3} {-1 -3} {-1 4} {1 4}. Of 1 the strict set is 2 3 4 and the
-- resolution-path set 2 3: from 1 paths end at 2 and 3, from -1 at -3 and -2, and 4 is an end of both, but in one sign.
use Prim.Native.Nat.{ℕ}
use mathlib.Core.Path.{◌≡◌, refl, sym, ap, ◌∙◌, subst}
use mathlib.Core.Bool.{Bool, true, false, not, or-true}
use mathlib.Core.List.Memᴰ
use mathlib.Core.List.{List, [], ◌∷◌, Memᴰ}
use mathlib.Core.Logic.{◌≢◌, ⊎_elim, by_cases}
use native.Mathlib.Decide.{ℕ_discrete}
use native.Mathlib.Omega.{arith}
use lib.IntN.{ℤ, pos, negsuc, neg_ℤ}
use Rattle.terms.specs.Literals.{variable_of}
use Rattle.terms.proofs.Common.{clash}
use Rattle.formula.specs.Lent.{Formula, formula_of}
use Rattle.formula.specs.Tables.{cut}
use Rattle.formula.specs.Meaning.{blocks, clauses, opposite, denied, always_true, connected, level, is_universal, is_existential}
use Rattle.formula.specs.InnerLevels.{free_level}
use Rattle.forest_theory.specs.Reach.{Variables, From, Reach, here, step, Deeper}
use Rattle.terms.specs.Listed.{Listed}
use Rattle.forest_tables.specs.Formula.{signed, SharesBy}
use Rattle.forest_tables.specs.Lent.{variables_of}
use Rattle.forest_tables.proofs.Agreeing.{lawful}
use Rattle.terms.specs.declared.Scheme.TheVariants.{Strict}
use Rattle.forest.specs.Answers.{DependsBy}
use Rattle.path_resolution.specs.Paths.{Crosses, Path, enters, goes_on, DependsByPaths}
use Rattle.path_resolution.proofs.Within.{paths_strict}

abbrev es : List ℕ
es = 2 ∷ 1 ∷ 0 ∷ 1 ∷ 2 ∷ 3 ∷ 4 ∷ 0 ∷ []

abbrev ls : List ℤ
ls = pos 1 ∷ pos 2 ∷ pos 0 ∷ negsuc 1 ∷ pos 3 ∷ pos 0 ∷ negsuc 0 ∷ negsuc 2 ∷ pos 0 ∷ negsuc 0 ∷ pos 4 ∷ pos 0 ∷ pos 1 ∷ pos 4 ∷ pos 0 ∷ []

abbrev f : Formula
f = formula_of 4 es ls

abbrev X : Variables
X = variables_of f

-- What antt computes.
record Computed : Type 0 where
  own : level es 1 ≡ 1
  level_2 : level es 2 ≡ 2
  level_3 : level es 3 ≡ 2
  level_4 : level es 4 ≡ 2
  universal : is_existential 4 es 1 ≡ false
  existential_2 : is_existential 4 es 2 ≡ true
  existential_3 : is_existential 4 es 3 ≡ true
  existential_4 : is_existential 4 es 4 ≡ true

computed : Computed
unfolding blocks free_level level is_universal is_existential cut
computed = record { own = refl; level_2 = refl; level_3 = refl; level_4 = refl; universal = refl; existential_2 = refl; existential_3 = refl; existential_4 = refl }

deeper_2 : Deeper X 1 2
deeper_2 = record { existential = computed.existential_2; deep = let a = computed.own in let b = computed.level_2 in omega arith }

deeper_3 : Deeper X 1 3
deeper_3 = record { existential = computed.existential_3; deep = let a = computed.own in let b = computed.level_3 in omega arith }

deeper_4 : Deeper X 1 4
deeper_4 = record { existential = computed.existential_4; deep = let a = computed.own in let b = computed.level_4 in omega arith }

-- The clauses, each entered by one of its literals and left by the other.
first_clause : Memᴰ (pos 1 ∷ pos 2 ∷ []) (clauses ls)
unfolding clauses cut
first_clause = Memᴰ.head refl

second_clause : Memᴰ (negsuc 1 ∷ pos 3 ∷ []) (clauses ls)
unfolding clauses cut
second_clause = Memᴰ.tail (Memᴰ.head refl)

third_clause : Memᴰ (negsuc 0 ∷ negsuc 2 ∷ []) (clauses ls)
unfolding clauses cut
third_clause = Memᴰ.tail (Memᴰ.tail (Memᴰ.head refl))

there : (a b : ℤ) → Memᴰ (a ∷ b ∷ []) (clauses ls) → always_true (a ∷ b ∷ []) ≡ false → variable_of a ≢ variable_of b → Crosses ls a b
there a b listed plain another = record { clause = a ∷ b ∷ []; listed = listed; takes_part = plain; entered = Memᴰ.head refl; left = Memᴰ.tail (Memᴰ.head refl); another = another }

back : (a b : ℤ) → Memᴰ (a ∷ b ∷ []) (clauses ls) → always_true (a ∷ b ∷ []) ≡ false → variable_of a ≢ variable_of b → Crosses ls b a
back a b listed plain another = record {
  clause = a ∷ b ∷ [];
  listed = listed;
  takes_part = plain;
  entered = Memᴰ.tail
      (Memᴰ.head refl);
  left = Memᴰ.head refl;
  another = λ q. another (sym q);
}

-- The paths from 1 and from -1.
to_2 : Path X ls 1 (signed true 1) (signed true 2)
unfolding signed opposite denied always_true
to_2 = enters (there (pos 1) (pos 2) first_clause refl (λ q. omega arith))

to_3 : Path X ls 1 (signed true 1) (signed true 3)
unfolding signed opposite denied always_true
to_3 = goes_on to_2 deeper_2 (there (negsuc 1) (pos 3) second_clause refl (λ q. omega arith))

to_not_3 : Path X ls 1 (signed false 1) (signed false 3)
unfolding signed opposite denied always_true
to_not_3 = enters (there (negsuc 0) (negsuc 2) third_clause refl (λ q. omega arith))

to_not_2 : Path X ls 1 (signed false 1) (signed false 2)
unfolding signed opposite denied always_true
to_not_2 = goes_on to_not_3 deeper_3 (back (negsuc 1) (pos 3) second_clause refl (λ q. omega arith))

depends_2 : DependsByPaths X ls 1 2
depends_2 = record { deeper = deeper_2; sign = true; from_x = to_2; from_negation = to_not_2 }

depends_3 : DependsByPaths X ls 1 3
depends_3 = record { deeper = deeper_3; sign = true; from_x = to_3; from_negation = to_not_3 }

-- No clause has -4, so that no path ends there.
mem_denied : (z l : ℤ) (clause : List ℤ) → opposite z l ≡ true → Memᴰ l clause → denied z clause ≡ true
unfolding denied
mem_denied z l [] q m = absurd (Memᴰ.not-nil m)
mem_denied z l (a ∷ clause) q m =
    ⊎_elim (λ e. let first : opposite z a ≡ true = ap (opposite z) (sym e) ∙ q in rw first refl)
    (λ m'. let later : denied z clause ≡ true = mem_denied z l clause q m' in rw later (or-true (opposite z a))) (Memᴰ.cases_cons m)

none_denied : (clause : List ℤ) → Memᴰ clause (clauses ls) → denied (pos 4) clause ≡ false
unfolding clauses cut opposite denied
none_denied clause m =
    ⊎_elim (λ q. ap (denied (pos 4)) q)
    (λ m. ⊎_elim (λ q. ap (denied (pos 4)) q)
    (λ m. ⊎_elim (λ q. ap (denied (pos 4)) q)
    (λ m. ⊎_elim (λ q. ap (denied (pos 4)) q) (λ m. ap (denied (pos 4)) (Memᴰ.eq_of_singleton m)) (Memᴰ.cases_cons m)) (Memᴰ.cases_cons m)) (Memᴰ.cases_cons m))
    (Memᴰ.cases_cons m)

not_crossed : (l m : ℤ) → m ≡ negsuc 3 → Crosses ls l m → ⊥
unfolding opposite
not_crossed l m q k = clash (mem_denied (pos 4) m k.clause (ap (opposite (pos 4)) q) k.left) (none_denied k.clause k.listed)

not_ended : {from l : ℤ} → l ≡ negsuc 3 → Path X ls 1 from l → ⊥
not_ended {from} {l} q (enters k) = not_crossed from l q k
not_ended {from} {l} q (goes_on {at = at} _ _ k) = not_crossed (neg_ℤ at) l q k

not_depends_4 : DependsByPaths X ls 1 4 → ⊥
unfolding signed
not_depends_4 d = go d.sign refl
  where
    go : (sign : Bool) → d.sign ≡ sign → ⊥
    go true q = not_ended (ap (λ s. signed (not s) 4) q) d.from_negation
    go false q = not_ended (ap (λ s. signed s 4) q) d.from_x

-- 4 shares a clause with 1 and with its negation.
shares_4 : (sign : Bool) → SharesBy ls sign 1 4
unfolding signed clauses cut opposite denied always_true connected
shares_4 true = record {
  clause = pos 1 ∷ pos 4 ∷ [];
  listed = Memᴰ.tail
      (Memᴰ.tail (Memᴰ.tail (Memᴰ.tail (Memᴰ.head refl))));
  literal = Memᴰ.head refl;
  connects = Memᴰ.tail (Memᴰ.head refl);
}
shares_4 false = record {
  clause = negsuc 0 ∷ pos 4 ∷ [];
  listed = Memᴰ.tail (Memᴰ.tail (Memᴰ.tail (Memᴰ.head refl)));
  literal =
      Memᴰ.head refl;
  connects = Memᴰ.tail (Memᴰ.head refl);
}

strict_4 : DependsBy Strict f 1 4
strict_4 = record { by = λ sign. record { first = 4; starts = shares_4 sign; allowed = record { existential = deeper_4.existential; deep = let l = deeper_4.deep in omega arith }; onward = here } }

-- The existentials, and that what is reached is one of them.
one_of : (v : ℕ) → is_existential 4 es v ≡ true → Memᴰ v (2 ∷ 3 ∷ 4 ∷ [])
one_of v ex =
    let (low, high) = (lawful 4 es).within v ex in
    by_cases (ℕ_discrete v 1) (λ q. absurd (clash (subst (λ w. is_existential 4 es w ≡ true) q ex) computed.universal))
    (λ a. by_cases (ℕ_discrete v 2) (λ q. Memᴰ.head q)
    (λ b. by_cases (ℕ_discrete v 3) (λ q. Memᴰ.tail (Memᴰ.head q)) (λ c. let q : v ≡ 4 = omega arith in Memᴰ.tail (Memᴰ.tail (Memᴰ.head q)))))

reach_from : {J : ℕ → ℕ → Type 0} {i v y : ℕ} → From X i v → Reach J (From X i) v y → From X i y
reach_from f here = f
reach_from f (step _ _ g) = g

-- The two sets of 1.
pub record Sampled : Type 0 where
  pub by_paths : Listed (DependsByPaths X ls 1) (2 ∷ 3 ∷ [])
  pub strictly : Listed (DependsBy Strict f 1) (2 ∷ 3 ∷ 4 ∷ [])

pub sampled : Sampled
sampled =
    record {
      by_paths =
          record {
            ascending = (λ b m. let q = Memᴰ.eq_of_singleton m in omega arith, (λ b m. absurd (Memᴰ.not-nil m), tt));
            each = λ v m. ⊎_elim (λ q. subst (DependsByPaths X ls 1) (sym q) depends_2) (λ m'. subst (DependsByPaths X ls 1) (sym (Memᴰ.eq_of_singleton m')) depends_3) (Memᴰ.cases_cons m);
            all = λ v d. ⊎_elim (λ q. Memᴰ.head q) (λ m. ⊎_elim (λ q. Memᴰ.tail (Memᴰ.head q))
                (λ m'. absurd (not_depends_4 (subst (DependsByPaths X ls 1) (Memᴰ.eq_of_singleton m') d)))
                (Memᴰ.cases_cons m)) (Memᴰ.cases_cons (one_of v d.deeper.existential));
          };
      strictly =
          record {
            ascending = (
              λ b m. ⊎_elim (λ q. omega arith) (λ m'. let q = Memᴰ.eq_of_singleton m' in omega arith) (Memᴰ.cases_cons m),
              (λ b m. let q = Memᴰ.eq_of_singleton m in omega arith, (λ b m. absurd (Memᴰ.not-nil m), tt)),
            );
            each = λ v m. ⊎_elim (λ q. subst (DependsBy Strict f 1) (sym q) (paths_strict f depends_2))
                (λ m'. ⊎_elim (λ q. subst (DependsBy Strict f 1) (sym q) (paths_strict f depends_3))
                (λ m''. subst (DependsBy Strict f 1) (sym (Memᴰ.eq_of_singleton m'')) strict_4) (Memᴰ.cases_cons m')) (Memᴰ.cases_cons m);
            all = λ v d. let f = d.by true in one_of v (reach_from f.allowed f.onward).existential;
          };
    }
