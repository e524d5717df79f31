-- The orders of verifying a file, one after the other.
use Rattle.std.specs.Prelude.{Err}
use Rattle.terms.specs.declared.Refusal.{Refusal}
use Rattle.terms.specs.Says.{Verdict, refused, said}
use Rattle.terms.specs.declared.Fault.TheVariants.{NoSuchRule, TooManyEntries, TooManyVariables}
use Prim.Native.Nat.{ℕ, ◌<◌, ◌≤◌}
use mathlib.Core.List.{List, [], ◌∷◌, ◌++◌}
use mathlib.Core.Logic.{◌⊎◌, inl, inr, ⊎_elim}
use native.Mathlib.Omega.{arith}
use lib.ListN.{length}
use Rattle.terms.specs.Limits.{most_variables, prefix_entries, clause_entries}
use Rattle.terms.specs.Refusals.{Causes, At0, None, Judged, NoneOf}
use Rattle.terms.proofs.Orders.{Carries, carry_judged, exchanged}
use Rattle.terms.proofs.Verdicts.{at0_first, at0_none, first_of_more, judges_later}
use Rattle.formula.specs.Lent.{Formula}
use Rattle.formula_rules.specs.Rules.{NoRule, read_by}
use Rattle.file_format.specs.Places.{formula_held}
use Rattle.file_format.specs.Causes.{ForestFileCause}
use Rattle.file_format.specs.InnerOrders.{file_order, table_order}
use Rattle.file_layout.specs.InnerLaid.{Laid}
use Rattle.file_layout.proofs.Laying.{file_laid}
use Rattle.file_verify.specs.InnerVerified.{IsRule, Finds, Judges, verify_order, Verifies}

-- What is found by one order is found by another that says as much.
pub carry_finds : (f : Formula) (file : List ℕ) (v : Verdict) (order order' : List Causes) → Carries order order'
    → Finds order f file v → Finds order' f file v
carry_finds f file v order order' c (judged, agreed) = (carry_judged order order' c v judged, agreed)

-- The number of a rule is not 23.
rule_none : {rule : ℕ} → IsRule rule → None (At0 23 (NoRule rule))
rule_none is = at0_none 23 (λ none. ⊎_elim none.0 none.1 is)

-- 1 and 2 by the numbers alone.
module _ (rule : ℕ) (f : Formula) (file : List ℕ) (is : IsRule rule) where
  pub count_over : most_variables < f.n → Judges rule f file (refused TooManyVariables 0)
  count_over over = (inr (rule_none is, inl (at0_first 1 over)), tt)

  pub length_over : f.n ≤ most_variables → (prefix_entries < length f.prefix) ⊎ (clause_entries < length f.clauses)
      → Judges rule f file (refused TooManyEntries 0)
  length_over few over = (inr (rule_none is, inr (at0_none 1 (λ l. omega arith), inl (at0_first 2 over))), tt)

-- The whole file: a number that is no rule's is 23; else a refusal of the records stands, and then what they hold decides, where 23 is behind the order.
pub no_rule : (rule : ℕ) (file : List ℕ) → (IsRule rule → ⊥) → Verifies rule file (refused NoSuchRule 0)
no_rule rule file none = (inl (at0_first 23 (λ one. none (inl one), λ two. none (inr two))), tt)

module _ (rule : ℕ) (file : List ℕ) (is : IsRule rule) where
  abbrev later : List Causes
  later = table_order rule (formula_held file) ++ (ForestFileCause (read_by rule (formula_held file)) file ∷ [])

  pub records_refused : (r : Refusal) → Judged {Values = Unit {0}} (file_order file) (Err r) → Verifies rule file (Err r)
  records_refused r first = (inr (rule_none is, first_of_more (file_order file) later _ _ first), tt)

  pub records_then : (w : Verdict) → NoneOf (file_order file) → Judges rule (formula_held file) file w → Verifies rule file w
  records_then w none (contents, agreed) =
      let rule-first = At0 23 (NoRule rule) ∷ [] in
      let unruled = carry_judged (rule-first ++ later) later (exchanged rule-first [] later (rule_none is, tt) tt) w contents in
      (judges_later rule-first (file_order file ++ later) (said w) (rule_none is, tt) (judges_later (file_order file) later (said w) none unruled), agreed)

-- So the records of a file that is verified are in order.
pub verified_laid : (rule : ℕ) (file : List ℕ) → NoneOf (verify_order rule file) → Laid file
verified_laid rule file none = file_laid file (none.1.0, (none.1.1.0, (none.1.1.1.0, (none.1.1.1.1.0, tt))))
