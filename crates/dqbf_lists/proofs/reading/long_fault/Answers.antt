-- The pattern `1 | 2` is a test of the range from 1 to 2; behind it n is compared, and where neither is refused 2 is first.
use mathlib.Core.Logic.{inl, inr}
use native.Mathlib.Omega.{arith}
use Rattle.terms.specs.Refusals.{None, At0}
use Rattle.terms.proofs.Verdicts.{at0_first, at0_none}
use Rattle.formula_rules.specs.Rules.{NoRule}
use Rattle.dqbf_lists.proofs.reading.long_fault.Goals as goal

pub returns-in-1 : goal.returns-in-1
returns-in-1 c =
    let ruled : None (At0 23 (NoRule c.args.rule)) = at0_none 23 (λ none. none.0 (omega arith)) in
    record { first = inr (ruled, inl (at0_first 1 c.if-n-gt-MOST.true)) }

pub returns-in-1-2 : goal.returns-in-1-2
returns-in-1-2 c =
    let ruled : None (At0 23 (NoRule c.args.rule)) = at0_none 23 (λ none. none.0 (omega arith)) in
    record {
      first = inr (
        ruled,
        inr (
          at0_none 1 (λ over. let low = c.if-n-gt-MOST.false in
              omega arith),
          inl (at0_first 2 tt),
        ),
      );
    }

pub returns-in_default : goal.returns-in_default
returns-in_default c = record { first = inl (at0_first 23 (omega arith, omega arith)) }

pub returns-in_default-2 : goal.returns-in_default-2
returns-in_default-2 c = record { first = inl (at0_first 23 (omega arith, omega arith)) }
