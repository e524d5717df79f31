-- Strict sets on a small formula, by computing: a 1, e 2 3 4, clauses {1 2} {-1 3} {2 3} {1 4}. Of 1 the standard set is 2 3 4 and the strict set 2 3,
-- since 4 is reached from the clauses with 1 alone.
use Prim.Native.Nat.{ℕ}
use mathlib.Core.Path.{◌≡◌, refl, sym, subst}
use mathlib.Core.Bool.{Bool, true, false}
use mathlib.Core.List.Memᴰ
use mathlib.Core.List.{List, [], ◌∷◌, Memᴰ}
use mathlib.Core.Logic.Iff
use mathlib.Core.Logic.{⊎_elim, ◌↔◌}
use lib.Dec.{T}
use lib.IntN.{ℤ, pos, negsuc}
use lib.Signed.{non_neg}
use Rattle.terms.proofs.Common.{clash}
use Rattle.formula.specs.Tables.{cut}
use Rattle.formula.specs.Meaning.{blocks, clauses, opposite, denied, always_true, connected, level, is_universal, is_existential}
use Rattle.formula.specs.InnerLevels.{free_level}
use Rattle.forest_theory.specs.Reach.{Variables, From, Reach, here, Follows}
use Rattle.forest_theory.specs.InnerSearch.{has, meets, keep, put_back, find, see, spread, reached, reaches, is_from, sift, set_of}
use Rattle.forest_theory.proofs.Search.{reaches_true, reaches_false, from_test, set_of_depends}
use Rattle.terms.specs.declared.Scheme.TheVariants.{Standard, Strict}
use Rattle.formula.specs.Lent.{Formula, formula_of}
use Rattle.forest_tables.specs.Formula.{variables, signed, joined, Shares, SharesBy}
use Rattle.forest.specs.Answers.{DependsBy}
use Rattle.forest_tables.proofs.Agreeing.{lawful}

abbrev es : List ℕ
es = 2 ∷ 1 ∷ 0 ∷ 1 ∷ 2 ∷ 3 ∷ 4 ∷ 0 ∷ []

abbrev ls : List ℤ
ls = pos 1 ∷ pos 2 ∷ pos 0 ∷ negsuc 0 ∷ pos 3 ∷ pos 0 ∷ pos 2 ∷ pos 3 ∷ pos 0 ∷ pos 1 ∷ pos 4 ∷ pos 0 ∷ []

abbrev sample : Formula
sample = formula_of 4 es ls

abbrev X : Variables
X = variables 4 es

-- What antt computes.
record Computed : Type 0 where
  standard : set_of X (joined ls) 1 ≡ 2 ∷ 3 ∷ 4 ∷ []
  universal : is_existential 4 es 1 ≡ false
  from_2 : is_from X (level es 1) 2 ≡ true
  from_3 : is_from X (level es 1) 3 ≡ true
  there : reaches (is_from X (level es 1)) (joined ls) 2 3 ≡ true
  back : reaches (is_from X (level es 1)) (joined ls) 3 2 ≡ true
  apart : reaches (is_from X (level es 1)) (joined ls) 3 4 ≡ false

computed : Computed
unfolding blocks clauses opposite denied always_true connected free_level level is_universal is_existential cut has meets keep put_back find see spread reached reaches is_from sift set_of joined
computed = record { standard = refl; universal = refl; from_2 = refl; from_3 = refl; there = refl; back = refl; apart = refl }

-- The clauses with 1 and with its negation.
plain : SharesBy ls true 1 2
unfolding signed clauses cut opposite denied always_true connected
plain = record { clause = pos 1 ∷ pos 2 ∷ []; listed = Memᴰ.head refl; literal = Memᴰ.head refl; connects = Memᴰ.tail (Memᴰ.head refl) }

negated : SharesBy ls false 1 3
unfolding signed clauses cut opposite denied always_true connected
negated = record { clause = negsuc 0 ∷ pos 3 ∷ []; listed = Memᴰ.tail (Memᴰ.head refl); literal = Memᴰ.head refl; connects = Memᴰ.tail (Memᴰ.head refl) }

no_negation : (a b : ℕ) → Memᴰ (negsuc 0) (pos a ∷ pos b ∷ []) → ⊥
no_negation a b m = ⊎_elim (no a) (λ m'. no b (Memᴰ.eq_of_singleton m')) (Memᴰ.cases_cons m)
  where
    no : (a : ℕ) → negsuc 0 ≡ pos a → ⊥
    no a q = subst (λ (z : ℤ). T (non_neg z)) (sym q) tt

which : (clause : List ℤ) → Memᴰ clause (clauses ls) → Memᴰ (negsuc 0) clause → clause ≡ negsuc 0 ∷ pos 3 ∷ []
unfolding clauses cut
which clause m l =
    ⊎_elim (λ q. absurd (no_negation 1 2 (subst (Memᴰ (negsuc 0)) q l)))
    (λ m'. ⊎_elim (λ q. q)
    (λ m''. ⊎_elim (λ q. absurd (no_negation 2 3 (subst (Memᴰ (negsuc 0)) q l)))
    (λ m'''. absurd (no_negation 1 4 (subst (Memᴰ (negsuc 0)) (Memᴰ.eq_of_singleton m''') l))) (Memᴰ.cases_cons m''))
    (Memᴰ.cases_cons m'))
    (Memᴰ.cases_cons m)

-- The only existential that shares a clause with the negation of 1 is 3.
only_3 : (z : ℕ) → SharesBy ls false 1 z → is_existential 4 es z ≡ true → z ≡ 3
unfolding signed opposite denied always_true connected
only_3 z s ex = third (subst (λ c. Memᴰ z (connected c)) (which s.clause s.listed s.literal) s.connects)
  where
    third : Memᴰ z (1 ∷ 3 ∷ []) → z ≡ 3
    third m = ⊎_elim (λ q. absurd (clash (subst (λ v. is_existential 4 es v ≡ true) q ex) computed.universal)) Memᴰ.eq_of_singleton (Memᴰ.cases_cons m)

-- The standard set of 1 is 2 3 4, and of these 2 and 3 depend on it strictly, and 4 does not.
pub record Sampled : Type 0 where
  pub standard : (y : ℕ) → DependsBy Standard sample 1 y ↔ Memᴰ y (2 ∷ 3 ∷ 4 ∷ [])
  pub strict_2 : DependsBy Strict sample 1 2
  pub strict_3 : DependsBy Strict sample 1 3
  pub not_strict_4 : DependsBy Strict sample 1 4 → ⊥

pub sampled : Sampled
sampled =
    record {
      standard = λ y. subst (λ l. DependsBy Standard sample 1 y ↔ Memᴰ y l) computed.standard (Iff.symm (set_of_depends (lawful 4 es)));
      strict_2 = record { by = λ sign. to 2 sign here ((reaches_true from_test).0 computed.back) };
      strict_3 = record { by = λ sign. to 3 sign ((reaches_true from_test).0 computed.there) here };
      not_strict_4 = λ d. let f = d.by false in
          reaches_false from_test computed.apart (subst (λ z. Reach (Shares ls) (From X (level es 1)) z 4) (only_3 f.first f.starts f.allowed.existential) f.onward);
    }
  where
    -- first to 2 or, by the negation, to 3, and on from there
    to : (y : ℕ) (sign : Bool) → Reach (Shares ls) (From X (level es 1)) 2 y → Reach (Shares ls) (From X (level es 1)) 3 y
        → Follows (SharesBy ls sign) (Shares ls) (From X (level es 1)) 1 y
    to y true r s = record { first = 2; starts = plain; allowed = (from_test 2).1 computed.from_2; onward = r }
    to y false r s = record { first = 3; starts = negated; allowed = (from_test 3).1 computed.from_3; onward = s }
