-- The call for all sets, with a clause table and with a reduction of it, both of which check accepts: the same answer, and the same entries afterwards.
use Prim.Native.Nat.{ℕ}
use mathlib.Core.Path.{◌≡◌}
use mathlib.Core.List.{List, [], ◌∷◌}
use mathlib.Core.Logic.Iff
use lib.IntN.{ℤ}
use Rattle.terms.specs.Refusals.{NoneOf}
use Rattle.terms.specs.declared.Scheme.{Scheme}
use Rattle.terms.specs.Says.{Answer}
use Rattle.terms.proofs.Orders.{one_more, behind, same_order}
use Rattle.formula.specs.Lent.{Formula, formula_of}
use Rattle.formula_rules.specs.Rules.{read_as, read_by, check_order}
use Rattle.forest_tables.specs.Formula.{variables, universal}
use Rattle.forest_tables.specs.Causes.{ForestCause}
use Rattle.forest_tables.specs.Lent.{Rows}
use Rattle.sets.specs.Sets.{AllSetsBy, SetsOutputCause, SetsListed}
use Rattle.sets.proofs.Records.{records_as}
use Rattle.sets.proofs.Settled.{sets_settled}
use Rattle.grow_reduced.specs.Reduced.{Reduction}
use Rattle.grow_reduced.proofs.Orders.{carry_over, filling_over}
use Rattle.grow_reduced.proofs.Plans.{same_members}

module _ (rule n : ℕ) (es : List ℕ) {ls ls' : List ℤ} (reduction : Reduction (variables n (read_as rule es)) ls ls')
    (accepted : NoneOf (check_order rule (formula_of n es ls))) (accepted' : NoneOf (check_order rule (formula_of n es ls'))) (r : Rows) (scheme : Scheme) where
  -- the two formulas
  abbrev f : Formula
  f = formula_of n es ls

  abbrev f' : Formula
  f' = formula_of n es ls'

  -- The lists of all sets are the same.
  sets_to : (list : List ℕ) → AllSetsBy scheme (read_by rule f) r list → AllSetsBy scheme (read_by rule f') r list
  sets_to list all = records_as {U = universal n (read_as rule es)} (λ x u. same_members n (read_as rule es) reduction r scheme x) n list all

  sets_back : (list : List ℕ) → AllSetsBy scheme (read_by rule f') r list → AllSetsBy scheme (read_by rule f) r list
  sets_back list all = records_as {U = universal n (read_as rule es)} (λ x u v. Iff.symm (same_members n (read_as rule es) reduction r scheme x v)) n list all

  pub same_sets_listed : (before after after' : List ℕ) (a b : Answer ℕ)
      → SetsListed rule scheme f r before after a → SetsListed rule scheme f' r before after' b → (a ≡ b) × (after ≡ after')
  same_sets_listed before after after' a b told told' =
      sets_settled rule scheme f' r before after after' a b
      (filling_over (AllSetsBy scheme (read_by rule f) r) (AllSetsBy scheme (read_by rule f') r)
      (carry_over (check_order rule f) (check_order rule f') accepted accepted' (behind (ForestCause n (read_as rule es) r ∷ [])
      (one_more (SetsOutputCause scheme (read_by rule f) r before) (SetsOutputCause scheme (read_by rule f') r before)
      (λ k p c. (c.0, c.1, (c.2.0, sets_to c.2.0 c.2.1, c.2.2))) (λ k p c. (c.0, c.1, (c.2.0, sets_back c.2.0 c.2.1, c.2.2))) (same_order []))))
      sets_to before after a told) told'
