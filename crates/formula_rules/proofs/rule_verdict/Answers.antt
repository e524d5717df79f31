-- By the rule number: neither is 23, rule 1 judges as the plain order does, and rule 2 by the joined causes.
use Rattle.terms.specs.Says.{accepted, refused}
use Rattle.terms.specs.declared.Fault.TheVariants.{TooManyEntries, TooManyVariables}
use mathlib.Core.Path.{refl}
use mathlib.Core.List.{[], ◌∷◌}
use mathlib.Core.Logic.{◌⊎◌, inl, inr, ⊎_elim}
use native.Mathlib.Omega.{arith}
use Rattle.terms.specs.Refusals.{At0}
use Rattle.terms.proofs.Verdicts.{at0_first, at0_none, accepted_then}
use Rattle.formula.specs.Causes.{VariableCount, PrefixLong, ClausesLong}
use Rattle.formula_rules.specs.Rules.{JoinedCause}
use Rattle.formula_rules.proofs.Orders.{rule_one, rule_two}
use Rattle.formula_rules.proofs.rule_verdict.Goals as goal

pub returns-then-rule-eq1 : goal.returns-then-rule-eq1
returns-then-rule-eq1 c =
    let a = c.args in
    record { judged = rule_one a.rule a.n a.prefix.now a.entries c.if-rule-eq1.true c.prefix_verdict.result c.prefix_verdict.ensures.judged }

pub returns-then-n-gt-MOST : goal.returns-then-n-gt-MOST
returns-then-n-gt-MOST c =
    let a = c.args in
    record { judged = rule_two a.rule a.n a.prefix.now a.entries (omega arith) (refused TooManyVariables 0) (inl (at0_first 1 c.if-n-gt-MOST.true)) }

pub returns-then-prefix-gt-ENTRIES : goal.returns-then-prefix-gt-ENTRIES
returns-then-prefix-gt-ENTRIES c =
    let a = c.args in
    record {
      judged = rule_two a.rule a.n a.prefix.now a.entries (omega arith) (refused TooManyEntries 0)
          (inr (at0_none 1 (λ over. omega arith), inl (at0_first 2 (inl c.if-prefix-gt-ENTRIES.true))));
    }

pub returns-then-entries-gt-ENTRIES : goal.returns-then-entries-gt-ENTRIES
returns-then-entries-gt-ENTRIES c =
    let a = c.args in
    record {
      judged = rule_two a.rule a.n a.prefix.now a.entries (omega arith) (refused TooManyEntries 0)
          (inr (at0_none 1 (λ over. omega arith), inl (at0_first 2 (inr c.if-entries-gt-ENTRIES.true))));
    }

pub returns : goal.returns
returns c =
    let a = c.args in
    let few = c.if-n-gt-MOST.false in
    let short = c.if-prefix-gt-ENTRIES.false in
    let small = c.if-entries-gt-ENTRIES.false in
    record {
      judged = rule_two a.rule a.n a.prefix.now a.entries (omega arith) c.joined_verdict.result
          (accepted_then (VariableCount a.n ∷ At0 2 (PrefixLong a.prefix.now ⊎ ClausesLong a.entries) ∷ [])
          (JoinedCause a.n a.prefix.now ∷ []) {v = accepted} c.joined_verdict.result refl
          (at0_none 1 (λ over. omega arith), (at0_none 2 (⊎_elim (λ m. omega arith) (λ m. omega arith)), tt)) c.joined_verdict.ensures.judged);
    }
