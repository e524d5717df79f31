-- A path has no cause of refusal 24 exactly if it is acceptable.
use Prim.Native.Nat.{ℕ, suc, ◌-◌, ◌<◌}
use mathlib.Core.Path.{◌≡◌, refl, sym, subst}
use mathlib.Core.Bool.{false, not-eq-not}
use mathlib.Core.List.{List}
use mathlib.Core.Logic.{◌↔◌, by_cases}
use native.Mathlib.Decide.{dec_lt}
use native.Mathlib.Omega.{arith}
use lib.IntN.{ℤ}
use lib.ListN.{length}
use Rattle.terms.specs.Refusals.{None}
use Rattle.terms.proofs.Common.{clash}
use Rattle.formula.specs.Tables.{at}
use Rattle.forest_theory.specs.Reach.{Variables}
use Rattle.path_check.specs.Paths.{HasVariable, Shared, Acceptable}
use Rattle.path_check.specs.Causes.{PathCause, empty, without_x, is_always_true, apart, without_y}
use Rattle.path_check.proofs.Deciding.{steady, has_variable, shares, has_tells, shares_tells}

module _ {X : Variables} {ls : List ℤ} {x y : ℕ} {path : List ℕ} where
  some_entry : None (PathCause X ls x y path) → 0 < length path
  some_entry none = by_cases (dec_lt 0 (length path)) (λ l. l) (λ l. absurd (none 24 0 (empty refl refl (omega arith))))

  no_cause_acceptable : None (PathCause X ls x y path) → Acceptable X ls x y path
  no_cause_acceptable none =
      let some = some_entry none in
      let end : suc (length path - 1) ≡ length path = omega arith in
      record {
        some = some;
        first = steady (has_variable ls (at path 0) x) (has_tells ls (at path 0) x) (λ h. none 24 0 (without_x refl refl some h));
        last = steady (has_variable ls (at path (length path - 1)) y) (has_tells ls (at path (length path - 1)) y) (λ h. none 24 (length path - 1) (without_y refl end h));
        neighbours = λ i l. steady (shares X ls x (at path i) (at path (suc i))) (shares_tells X ls x (at path i) (at path (suc i))) (λ h. none 24 (suc i) (apart i refl refl l h));
        not-true = λ i l. (not-eq-not {b = false}).0 (λ t. none 24 i (is_always_true refl l t));
      }

  acceptable_no_cause : Acceptable X ls x y path → None (PathCause X ls x y path)
  acceptable_no_cause a k e (empty _ _ q) = let s = a.some in omega arith
  acceptable_no_cause a k e (without_x _ _ _ none) = none a.first
  acceptable_no_cause a k e (is_always_true _ l t) = clash t (a.not-true e l)
  acceptable_no_cause a k e (apart i _ q l none) =
      let less : suc i < length path = omega arith in
      none (subst (λ j. Shared X ls x (at path i) (at path j)) (sym q) (a.neighbours i less))
  acceptable_no_cause a k e (without_y _ q none) = let end : length path - 1 ≡ e = omega arith in none (subst (λ j. HasVariable ls (at path j) y) end a.last)

  pub acceptable_exactly : None (PathCause X ls x y path) ↔ Acceptable X ls x y path
  acceptable_exactly = (no_cause_acceptable, acceptable_no_cause)
