-- 1 and 2 are tested first, and where neither has a cause the prefix is judged (accepted_then).
use Rattle.terms.specs.Says.{accepted}
use Prim.Native.Nat.{◌<◌}
use mathlib.Core.Path.{refl}
use mathlib.Core.List.{[], ◌∷◌}
use mathlib.Core.Logic.{◌⊎◌, inl, inr, ⊎_elim}
use native.Mathlib.Omega.{arith}
use Rattle.terms.specs.Refusals.{At0}
use Rattle.terms.proofs.Verdicts.{at0_first, at0_none, accepted_then}
use Rattle.formula.specs.Causes.{VariableCount, PrefixLong, ClausesLong, PrefixCause}
use Rattle.formula_checks.proofs.prefix.prefix_verdict.Goals as goal

pub returns-then-n-gt-MOST : goal.returns-then-n-gt-MOST
returns-then-n-gt-MOST c = record { judged = inl (at0_first 1 c.if-n-gt-MOST.true) }

pub returns-then-prefix-gt-ENTRIES : goal.returns-then-prefix-gt-ENTRIES
returns-then-prefix-gt-ENTRIES c = record { judged = inr (at0_none 1 (λ over. omega arith), inl (at0_first 2 (inl c.if-prefix-gt-ENTRIES.true))) }

pub returns-then-entries-gt-ENTRIES : goal.returns-then-entries-gt-ENTRIES
returns-then-entries-gt-ENTRIES c = record { judged = inr (at0_none 1 (λ over. omega arith), inl (at0_first 2 (inr c.if-entries-gt-ENTRIES.true))) }

pub returns : goal.returns
returns c =
    let a = c.args in
    let es = a.prefix.now in
    let long : ¬ PrefixLong es = λ m. let l = c.if-prefix-gt-ENTRIES.false in
    omega arith in
    let many : ¬ ClausesLong a.entries = λ m. let l = c.if-entries-gt-ENTRIES.false in
    omega arith in
    let few : ¬ (4096 < a.n) = λ m. let l = c.if-n-gt-MOST.false in
    omega arith in
    record {
      judged = accepted_then (VariableCount a.n ∷ At0 2 (PrefixLong es ⊎ ClausesLong a.entries) ∷ []) (PrefixCause a.n es ∷ []) {v = accepted}
          c.check_prefix.result refl (at0_none 1 few, (at0_none 2 (⊎_elim long many), tt)) c.check_prefix.ensures.judged;
    }
