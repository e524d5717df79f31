-- 1 and 2 are tested first, then the clause table judges, and where it accepts, whether a clause with the number asked for is found tells of 13.
use Rattle.std.specs.Prelude.{Err}
use Rattle.terms.specs.Says.{Verdict, accepted, refused}
use Rattle.terms.specs.declared.Fault.TheVariants.{NotAskable}
use Prim.Native.Nat.{ℕ, ◌≤◌}
use mathlib.Core.Path.{◌≡◌, refl, subst}
use mathlib.Core.List.{List, [], ◌∷◌, ◌++◌}
use mathlib.Core.Logic.{inl, inr}
use native.Mathlib.Omega.{arith}
use lib.IntN.{ℤ}
use lib.ListN.{length}
use Rattle.terms.specs.Refusals.{Causes, At0, Judged}
use Rattle.terms.proofs.Verdicts.{at0_first, at0_none, first_of_more, accepted_then, handed_on}
use Rattle.formula.specs.Causes.{VariableCount, ClausesLong, ClauseCause, clause_order}
use Rattle.formula.specs.InnerLookup.{Stands}
use Rattle.formula.specs.Meaning.{clauses}
use Rattle.formula_checks.proofs.clause_verdict.Goals as goal

-- what is judged once n and the length are within their limits, in two steps
abbrev literals : ℕ → List ℤ → List Causes
literals n ls = ClauseCause n ls ∷ []

abbrev number : List ℤ → ℕ → List Causes
number ls asked = At0 13 (length (clauses ls) ≤ asked) ∷ []

module _ (n : ℕ) (ls : List ℤ) (asked : ℕ) (few : n ≤ 4096) (small : length ls ≤ 16384) where
  within : (v : Verdict) → Judged (literals n ls ++ number ls asked) v → Judged (clause_order n ls asked) v
  within v later =
      accepted_then (VariableCount n ∷ At0 2 (ClausesLong (length ls)) ∷ []) (literals n ls ++ number ls asked) {v = accepted} v refl
      (at0_none 1 (λ over. omega arith), (at0_none 2 (λ over. omega arith), tt)) later

  -- the clause table is accepted, and the number judged
  found : {table : Verdict} (v : Verdict) → table ≡ accepted → Judged (literals n ls) table → Judged (number ls asked) v
      → Judged (clause_order n ls asked) v
  found v q judged later = within v (accepted_then (literals n ls) (number ls asked) v q judged later)

pub returns-then-n-gt-MOST : goal.returns-then-n-gt-MOST
returns-then-n-gt-MOST c = record { judged = inl (at0_first 1 c.if-n-gt-MOST.true) }

pub returns-then-clauses-gt-ENTRIES : goal.returns-then-clauses-gt-ENTRIES
returns-then-clauses-gt-ENTRIES c = record { judged = inr (at0_none 1 (λ over. omega arith), inl (at0_first 2 c.if-clauses-gt-ENTRIES.true)) }

pub returns-in_err-check_clauses : goal.returns-in_err-check_clauses
returns-in_err-check_clauses c =
    let a = c.args in
    let ls = a.clauses.now in
    rw (handed_on c.from_residual.result c.from_residual.ensures.1)
    record {
      judged = within a.n ls a.asked c.if-n-gt-MOST.false c.if-clauses-gt-ENTRIES.false (Err c.in_err-check_clauses.field-0.0)
          (first_of_more (literals a.n ls) (number ls a.asked) _ _ c.in_err-check_clauses.ensures.judged);
    }

pub returns-in-Some : goal.returns-in-Some
unfolding Stands
returns-in-Some c =
    let a = c.args in
    let stands = c.in-Some.ensures.stands in
    record {
      judged = found a.n a.clauses.now a.asked c.if-n-gt-MOST.false c.if-clauses-gt-ENTRIES.false accepted c.in_ok-check_clauses.was
          c.check_clauses.ensures.judged (at0_none 13 (λ past. let below = stands.2 in omega arith), tt);
    }

pub returns-in-None : goal.returns-in-None
unfolding Stands
returns-in-None c =
    let a = c.args in
    record {
      judged = found a.n a.clauses.now a.asked c.if-n-gt-MOST.false c.if-clauses-gt-ENTRIES.false (refused NotAskable 0) c.in_ok-check_clauses.was
          c.check_clauses.ensures.judged (inl (at0_first 13 c.in-None.ensures.stands));
    }
