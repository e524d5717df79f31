-- What acceptance gives the inner functions, and how what is left to refuse of build and add is judged.
use Rattle.terms.specs.Says.{accepted}
use Prim.Native.Nat.{ℕ, ◌≤◌}
use mathlib.Core.Path.{refl}
use mathlib.Core.List.{List, [], ◌∷◌}
use mathlib.Core.Logic.{inl, inr, ⊎_elim, by_cases}
use native.Mathlib.Decide.{dec_lt}
use native.Mathlib.Omega.{arith}
use lib.IntN.{ℤ}
use lib.ListN.{length}
use Rattle.terms.specs.Literals.{variable_of}
use Rattle.terms.specs.Refusals.{None, FirstOf, Judged, At0}
use Rattle.terms.proofs.Verdicts.{at0_first, at0_none}
use Rattle.formula.specs.Tables.{literal_at}
use Rattle.formula.specs.InnerLookup.{InRows}
use Rattle.forest_tables.specs.Causes.{ForestCause}
use Rattle.forest_tables.specs.Lent.{Rows}
use Rattle.grow_refusals.specs.Admitted.{AddedCause, outside}
use Rattle.grow.specs.Grown.{Standing, TooShort}
use Rattle.grow.specs.InnerRows.{Room}

-- 14 is given where a lent table has not n rows.
module _ (n : ℕ) (s : Standing) where
  abbrev Enough : Type 0
  Enough = Room n s.rows.classes s.rows.parents s.rows.counts

  pub build_short : (Enough → ⊥) → FirstOf (At0 14 (TooShort n s) ∷ []) 14 0
  build_short full =
      inl (at0_first 14
      (by_cases (dec_lt (length s.rows.classes) n) (λ l. inl l)
      (λ cs. by_cases (dec_lt (length s.rows.parents) n) (λ l. inr (inl l))
      (λ ps. by_cases (dec_lt (length s.rows.counts) n) (λ l. inr (inr l)) (λ ks. absurd (full (omega arith, omega arith, omega arith)))))))

  pub build_accepted : Enough → Judged (At0 14 (TooShort n s) ∷ []) accepted
  build_accepted (cs, ps, ks) =
      (at0_none 14 (λ short. ⊎_elim (λ l. omega arith) (λ rest. ⊎_elim (λ l. omega arith) (λ l. omega arith) rest) short), tt)

-- The variables of an accepted clause have rows.
pub added_rows : {n : ℕ} {ls : List ℤ} → n ≤ 4096 → None (AddedCause n ls) → InRows ls
added_rows {n} {ls} few none e l =
    by_cases (dec_lt n (variable_of (literal_at ls e))) (λ over. absurd (none 10 e (outside refl l (inr over)))) (λ low. omega arith)

-- Tables that have no cause of 12 have rows enough.
pub long_enough : {n : ℕ} {es : List ℕ} {r : Rows} → None (ForestCause n es r) → Room n r.classes r.parents r.counts
long_enough {n} {es} {r} none = (
  by_cases (dec_lt (length r.classes) n) (λ l. absurd (none 12 0 (ForestCause.short refl refl (inl l)))) (λ l. omega arith),
  by_cases (dec_lt (length r.parents) n) (λ l. absurd (none 12 0 (ForestCause.short refl refl (inr (inl l))))) (λ l. omega arith),
  by_cases (dec_lt (length r.counts) n) (λ l. absurd (none 12 0 (ForestCause.short refl refl (inr (inr l))))) (λ l. omega arith),
)
