-- The path check on formula A (rule 17.1), its prefix read as it stands, by computing: n 9, blocks e 1 2, a 3, e 4 5, a 6, e 7 8 9, clauses {3 4 7}
-- {-4 8} {6 9} {5 9} {1 5}, and an always-true clause {3 8 -8} put last, which has the number 5.
use Prim.Native.Nat.{ℕ, zero, suc}
use mathlib.Core.Path.{◌≡◌, refl, subst}
use mathlib.Core.Bool.{Bool, true, ◌&&◌}
use mathlib.Core.List.{List, [], ◌∷◌}
use mathlib.Core.Logic.{inl, inr, ⊎_elim}
use native.Mathlib.Omega.{arith}
use borrow.Author.Tests.{ltb-true}
use lib.Dec.{ltb, lit≤}
use lib.IntN.{ℤ, pos, negsuc}
use lib.ListN.{length}
use Rattle.terms.specs.Says.{Verdict, accepted, refused, said}
use Rattle.terms.specs.declared.Fault.TheVariants.{NotAskable, WrongPath}
use Rattle.terms.proofs.Common.{clash}
use Rattle.terms.proofs.Verdicts.{at0_first, at0_none, judges_later}
use Rattle.terms.specs.Refusals.{At0, NoneOf, Judged}
use Rattle.formula.specs.Lent.{Formula, formula_of}
use Rattle.formula.specs.Meaning.{blocks, clauses, opposite, denied, always_true, level, is_universal, is_existential}
use Rattle.formula.specs.InnerLevels.{free_level}
use Rattle.formula.specs.Tables.{cut}
use Rattle.formula.proofs.Accepts.{good_mark, prefix_passes, clauses_pass, accepts}
use Rattle.forest_theory.proofs.Choice.{both}
use Rattle.forest_theory.specs.InnerSearch.{has}
use Rattle.formula_rules.specs.Rules.{read_as, check_order}
use Rattle.forest_tables.specs.Formula.{variables, universal}
use Rattle.path_check.specs.Causes.{Misnamed, NumberOver, PathCause, PathJudged}
use Rattle.path_check.specs.InnerOrders.{pair_order}
use Rattle.path_check.proofs.Deciding.{has_variable, is_deeper, common, shares, joins, fails, scan, judge, judge_judged}

abbrev es : List ℕ
es = 1 ∷ 1 ∷ 2 ∷ 0 ∷ 2 ∷ 3 ∷ 0 ∷ 1 ∷ 4 ∷ 5 ∷ 0 ∷ 2 ∷ 6 ∷ 0 ∷ 1 ∷ 7 ∷ 8 ∷ 9 ∷ 0 ∷ []

abbrev ls : List ℤ
ls =
    pos 3 ∷ pos 4 ∷ pos 7 ∷ pos 0 ∷ negsuc 3 ∷ pos 8 ∷ pos 0 ∷ pos 6 ∷ pos 9 ∷ pos 0 ∷ pos 5 ∷ pos 9 ∷ pos 0 ∷ pos 1 ∷ pos 5 ∷ pos 0 ∷ pos 3 ∷ pos 8 ∷ negsuc 7 ∷ pos 0 ∷ []

abbrev formula_A : Formula
formula_A = formula_of 9 es ls

passes : NoneOf (check_order 1 formula_A)
unfolding good_mark prefix_passes clauses_pass
passes = (at0_none 23 (λ w. w.0 refl), accepts 9 es ls (lit≤ tt) (lit≤ tt) (lit≤ tt) refl refl)

-- all numbers of a path are below a count
unfoldable below : ℕ → List ℕ → Bool
below count [] = true
below count (k ∷ path) = ltb k count && below count path

none_over : (count : ℕ) (path : List ℕ) → below count path ≡ true → NumberOver count path → ⊥
unfolding below
none_over count [] t (i, l, high) = omega arith
none_over count (k ∷ path) t (zero, l, high) = let low = ltb-true k count (both (ltb k count) (below count path) t).0 in omega arith
none_over count (k ∷ path) t (suc i, l, high) = none_over count path (both (ltb k count) (below count path) t).1 (i, omega arith, high)

-- What is judged behind check is the verdict of the call, since A is accepted.
behind_check : (x y : ℕ) (path : List ℕ) (verdict : Verdict) → Judged (pair_order formula_A x y path) verdict → PathJudged 1 formula_A x y path verdict
unfolding read_as
behind_check x y path verdict = judges_later (check_order 1 formula_A) (pair_order formula_A x y path) (said verdict) passes

-- What antt computes of a pair and a path: nothing is refused as 13, and the verdict on the path.
record Computed (x y : ℕ) (path : List ℕ) (verdict : Verdict) : Type 0 where
  of_universal : universal 9 es x ≡ true
  of_existential : is_existential 9 es y ≡ true
  deeper : ltb (level es x) (level es y) ≡ true
  known : below (length (clauses ls)) path ≡ true
  judged : judge (variables 9 es) ls x y path ≡ verdict

-- Then that is the verdict of the call.
by_computing : {x y : ℕ} (path : List ℕ) (verdict : Verdict) → Computed x y path verdict → PathJudged 1 formula_A x y path verdict
by_computing {x} {y} path verdict c =
    behind_check x y path verdict
    (judges_later (At0 13 (Misnamed formula_A x y path) ∷ []) (PathCause (variables 9 es) ls x y path ∷ []) (said verdict)
    (at0_none 13 right, tt) (subst (Judged (PathCause (variables 9 es) ls x y path ∷ [])) c.judged (judge_judged (variables 9 es) ls x y path)))
  where
    right : Misnamed formula_A x y path → ⊥
    right =
        ⊎_elim (λ no'. clash c.of_universal no')
        (⊎_elim (⊎_elim (λ no'. clash c.of_existential no') (λ low. let high = ltb-true (level es x) (level es y) c.deeper in omega arith))
        (none_over (length (clauses ls)) path c.known))

-- What is refused as 13.
refused_13 : (x y : ℕ) (path : List ℕ) → Misnamed formula_A x y path → PathJudged 1 formula_A x y path (refused NotAskable 0)
refused_13 x y path wrong = behind_check x y path (refused NotAskable 0) (inl (at0_first 13 wrong))

pub record Sampled : Type 0 where
  -- {3 4 7} {-4 8} share 4
  pub path_3_8 : PathJudged 1 formula_A 3 8 (0 ∷ 1 ∷ []) accepted
  -- the first clause lacks 3; the last lacks 8; the path is empty
  pub without_3 : PathJudged 1 formula_A 3 8 (1 ∷ []) (refused WrongPath 0)
  pub without_8 : PathJudged 1 formula_A 3 8 (0 ∷ []) (refused WrongPath 0)
  pub no_clause : PathJudged 1 formula_A 3 8 [] (refused WrongPath 0)
  -- {3 4 7} {5 9} share nothing, and fail at the second
  pub apart_3_8 : PathJudged 1 formula_A 3 8 (0 ∷ 3 ∷ 1 ∷ []) (refused WrongPath 1)
  -- {3 8 -8} has both, and is always true
  pub always_true_3_8 : PathJudged 1 formula_A 3 8 (5 ∷ []) (refused WrongPath 0)
  -- {5 9} {1 5} share 5, which is not deeper than 6
  pub path_6_9 : PathJudged 1 formula_A 6 9 (2 ∷ 3 ∷ []) accepted
  pub shallow_6_9 : PathJudged 1 formula_A 6 9 (2 ∷ 3 ∷ 4 ∷ 3 ∷ []) (refused WrongPath 2)
  -- 13 comes before 24: a clause number that is too large, an x that is not universal, a y that is not deeper
  pub number_over : PathJudged 1 formula_A 3 8 (1 ∷ 6 ∷ []) (refused NotAskable 0)
  pub no_universal : PathJudged 1 formula_A 4 8 (1 ∷ []) (refused NotAskable 0)
  pub not_deeper : PathJudged 1 formula_A 6 5 (2 ∷ 3 ∷ []) (refused NotAskable 0)

pub sampled : Sampled
unfolding blocks clauses opposite denied always_true free_level level is_universal is_existential cut has universal below has_variable is_deeper common shares joins fails scan judge
sampled =
    record {
      path_3_8 = by_computing (0 ∷ 1 ∷ []) accepted (record { of_universal = refl; of_existential = refl; deeper = refl; known = refl; judged = refl });
      without_3 = by_computing (1 ∷ []) (refused WrongPath 0) (record { of_universal = refl; of_existential = refl; deeper = refl; known = refl; judged = refl });
      without_8 = by_computing (0 ∷ []) (refused WrongPath 0) (record { of_universal = refl; of_existential = refl; deeper = refl; known = refl; judged = refl });
      no_clause = by_computing [] (refused WrongPath 0) (record { of_universal = refl; of_existential = refl; deeper = refl; known = refl; judged = refl });
      apart_3_8 = by_computing (0 ∷ 3 ∷ 1 ∷ []) (refused WrongPath 1) (record { of_universal = refl; of_existential = refl; deeper = refl; known = refl; judged = refl });
      always_true_3_8 = by_computing (5 ∷ []) (refused WrongPath 0) (record { of_universal = refl; of_existential = refl; deeper = refl; known = refl; judged = refl });
      path_6_9 = by_computing (2 ∷ 3 ∷ []) accepted (record { of_universal = refl; of_existential = refl; deeper = refl; known = refl; judged = refl });
      shallow_6_9 = by_computing (2 ∷ 3 ∷ 4 ∷ 3 ∷ []) (refused WrongPath 2) (record { of_universal = refl; of_existential = refl; deeper = refl; known = refl; judged = refl });
      number_over = refused_13 3 8 (1 ∷ 6 ∷ []) (inr (inr (1, lit≤ tt, lit≤ tt)));
      no_universal = refused_13 4 8 (1 ∷ []) (inl refl);
      not_deeper = refused_13 6 5 (2 ∷ 3 ∷ []) (inr (inl (inr (lit≤ tt))));
    }
