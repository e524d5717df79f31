-- Where `snow_expand` returns 0, the formula that stands in front in its output tables holds exactly if the lent one does, as the rule reads it.
use Prim.Native.Nat.{ℕ}
use mathlib.Core.Path.{◌≡◌, subst}
use mathlib.Core.Bool.{Bool, true, false}
use mathlib.Core.List.{List, [], ◌∷◌}
use mathlib.Core.Logic.{◌↔◌, inl, inr}
use native.Mathlib.Omega.{arith}
use lib.Dec.{eqb}
use lib.IntN.{ℤ}
use Rattle.terms.specs.Refusals.{Causes, FirstOf}
use Rattle.formula.specs.Causes.{PrefixCause, ClauseCause}
use Rattle.formula.specs.Lent.{Formula}
use Rattle.formula_rules.specs.Rules.{read_by, JoinedCause, causes_if}
use Rattle.expand.specs.Promise.{ResultTables, result_in, result_out, expand_order}
use Rattle.expand.proofs.Accepted.{written}
use Rattle.truth_formula.specs.Holds.{Holds}
use Rattle.truth_expand.proofs.Claims.{written_keeps_truth}
use Rattle.snowcoddle.specs.Told.{accepted, refused}
use Rattle.snowcoddle.specs.Promises.{LentCell, LentTable, LentLiterals, ExpandTold}

-- No cause of refusal has the number 0.
prefix_some : {n : ℕ} {es : List ℕ} {e : ℕ} → PrefixCause n es 0 e → ⊥
prefix_some (PrefixCause.ends_inside q _ _) = omega arith
prefix_some (PrefixCause.no_mark q _ _ _) = omega arith
prefix_some (PrefixCause.same_mark _ q _ _ _) = omega arith
prefix_some (PrefixCause.too_many_blocks q _ _) = omega arith
prefix_some (PrefixCause.outside q _ _) = omega arith
prefix_some (PrefixCause.named_before _ q _ _ _ _) = omega arith
prefix_some (PrefixCause.empty_block _ q _ _ _) = omega arith

joined_some : {n : ℕ} {es : List ℕ} {e : ℕ} → JoinedCause n es 0 e → ⊥
joined_some (JoinedCause.ends_inside q _ _) = omega arith
joined_some (JoinedCause.no_mark q _ _ _) = omega arith
joined_some (JoinedCause.too_many_blocks q _ _ _) = omega arith
joined_some (JoinedCause.outside q _ _) = omega arith
joined_some (JoinedCause.named_before _ q _ _ _ _) = omega arith

causes_some : (joins : Bool) (n : ℕ) (es : List ℕ) (e : ℕ) → causes_if joins n es 0 e → ⊥
causes_some false n es e c = prefix_some c
causes_some true n es e c = joined_some c

clause_some : {n : ℕ} {ls : List ℤ} {e : ℕ} → ClauseCause n ls 0 e → ⊥
clause_some (ClauseCause.outside q _ _ _) = omega arith
clause_some (ClauseCause.ends_inside q _ _) = omega arith

abbrev NoneZero : List Causes → Type 0
NoneZero [] = Unit {0}
NoneZero (causes ∷ later) = ((place : ℕ) → causes 0 place → ⊥) × NoneZero later

first_some : (order : List Causes) (place : ℕ) → NoneZero order → FirstOf order 0 place → ⊥
first_some [] place none first = first
first_some (causes ∷ later) place none (inl first) = none.0 place first.holds
first_some (causes ∷ later) place none (inr first) = first_some later place none.1 first.1

expand_some : (rule : ℕ) (f : Formula) (x : ℕ) (out : ResultTables) → NoneZero (expand_order rule f x out)
expand_some rule f x out = (
  λ e c. let q = c.0 in omega arith,
  (
    λ e c. let q = c.0 in omega arith,
    (
      λ e c. let q = c.0 in omega arith,
      (
        λ e c. causes_some (eqb rule 2) f.n f.prefix e c,
        (
          λ e c. clause_some c,
          (
            λ e c. let q = c.0 in omega arith,
            (λ e c. let q = c.0 in omega arith, (λ e c. let q = c.0 in omega arith, (λ e c. let q = c.0 in omega arith, tt))),
          ),
        ),
      ),
    ),
  ),
)

pub snow_expand_keeps_truth : (rule : ℕ) (f : Formula) (x : ℕ) (n : LentCell) (prefix : LentTable) (entries : LentCell) (clauses : LentLiterals)
    (literals place : LentCell) (returned : ℕ) → ExpandTold rule f x n prefix entries clauses literals place returned → returned ≡ 0
    → Holds (read_by rule f) ↔ Holds (written (result_out prefix clauses) n.exit.now entries.exit.now literals.exit.now)
snow_expand_keeps_truth rule f x n prefix entries clauses literals place returned (accepted none given _ _) zero =
    written_keeps_truth rule f x (result_in prefix clauses) (result_out prefix clauses) n.exit.now entries.exit.now literals.exit.now none given
snow_expand_keeps_truth rule f x n prefix entries clauses literals place returned (refused first _) zero =
    absurd (first_some (expand_order rule f x (result_in prefix clauses)) place.exit.now (expand_some rule f x (result_in prefix clauses))
    (subst (λ (k : ℕ). FirstOf (expand_order rule f x (result_in prefix clauses)) k place.exit.now) zero first))
