-- The worked cases of rule 17.2, and so the limits of rule 1.1 and rule 1.4: each as the only verdict that the promise of check allows.
use Rattle.terms.specs.Says.{Verdict, accepted, refused}
use Rattle.terms.specs.declared.Fault.TheVariants.{ForeignLiteral, TooManyVariables}
use Prim.Native.Nat.{ℕ, zero, suc, ◌-◌, ◌<◌}
use mathlib.Core.Path.{◌≡◌, refl}
use mathlib.Core.List.{List, [], ◌∷◌}
use mathlib.Core.Logic.{inl, inr, ⊎_elim}
use native.Mathlib.Omega.{arith}
use lib.Dec.{lit<, lit≤}
use lib.IntN.{ℤ, pos, negsuc}
use Rattle.terms.specs.Refusals.{None, Judged}
use Rattle.terms.proofs.Verdicts.{at0_first, at0_none, judged_unique}
use Rattle.formula.specs.Causes.{PrefixCause, ClauseCause}
use Rattle.formula.specs.InnerOrders.{check_order}
use Rattle.formula.proofs.Accepts.{prefix_passes, good_mark, clauses_pass, accepts}
use Rattle.formula.proofs.Scanned.{scan_none, none_in_prefix}
use Rattle.formula.proofs.Literals.{read_none, fault_at_literal, none_in_clauses}

-- an empty prefix has no cause, whatever n, and neither has an empty clause table
no_prefix : (n : ℕ) → None (PrefixCause n [])
no_prefix n = none_in_prefix (scan_none n []) (omega arith) refl

no_clauses : (n : ℕ) → None (ClauseCause n [])
no_clauses n = none_in_clauses (read_none n []) (omega arith) refl

-- n 4,097 is 1, and 4,096 with empty tables is accepted, and so is n 0
pub over_the_limit : (v : Verdict) → Judged (check_order 4097 [] []) v → v ≡ refused TooManyVariables 0
over_the_limit v judged = judged_unique (check_order 4097 [] []) v (refused TooManyVariables 0) judged (inl (at0_first 1 (lit< tt)))

empty : (n : ℕ) → ¬ (4096 < n) → Judged (check_order n [] []) accepted
empty n few = (at0_none 1 few, (at0_none 2 (⊎_elim (λ l. omega arith) (λ l. omega arith)), (no_prefix n, (no_clauses n, tt))))

pub at_the_limit : (v : Verdict) → Judged (check_order 4096 [] []) v → v ≡ accepted
at_the_limit v judged = judged_unique (check_order 4096 [] []) v accepted judged (empty 4096 (λ l. omega arith))

pub nothing_at_all : (v : Verdict) → Judged (check_order 0 [] []) v → v ≡ accepted
nothing_at_all v judged = judged_unique (check_order 0 [] []) v accepted judged (empty 0 (λ l. omega arith))

-- the literal -2,147,483,648 is 10 at its entry
abbrev pub smallest : List ℤ
smallest = negsuc 2147483647 ∷ pos 0 ∷ []

pub smallest_literal : (v : Verdict) → Judged (check_order 4096 [] smallest) v → v ≡ refused ForeignLiteral 0
smallest_literal v judged =
    judged_unique (check_order 4096 [] smallest) v (refused ForeignLiteral 0) judged
    (inr (
      at0_none 1 (λ l. omega arith),
      inr (
        at0_none 2 (⊎_elim (λ l. omega arith) (λ l. omega arith)),
        inr (
          no_prefix 4096,
          inl (fault_at_literal (record { within = omega arith; low = λ e l. absurd (omega arith); over = λ _. lit< tt }) (omega arith)),
        ),
      ),
    ))

-- blocks of one variable each, their marks in turn
unfoldable pub in_turn : ℕ → ℕ → ℕ → List ℕ
in_turn zero mark v = []
in_turn (suc k) mark v = mark ∷ v ∷ 0 ∷ in_turn k (3 - mark) (suc v)

-- 64 blocks are accepted
pub sixty_four_blocks : (v : Verdict) → Judged (check_order 64 (in_turn 64 1 1) []) v → v ≡ accepted
unfolding in_turn prefix_passes good_mark clauses_pass
sixty_four_blocks v judged =
    judged_unique (check_order 64 (in_turn 64 1 1) []) v accepted judged (accepts 64 (in_turn 64 1 1) [] (lit≤ tt) (lit≤ tt) (lit≤ tt) refl refl)
