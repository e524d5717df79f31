-- The formula is judged by the rule; what is wrong with the lists by the prefix as the rule reads it stands behind that in the order.
use Prim.Native.Nat.{ℕ}
use mathlib.Core.List.{List, [], ◌∷◌}
use lib.ListN.{length}
use Rattle.terms.specs.Refusals.{Causes, Judged}
use Rattle.terms.proofs.Orders.{carry_judged}
use Rattle.terms.proofs.Verdicts.{handed_on}
use Rattle.formula.specs.Lent.{formula_of}
use Rattle.formula_rules.specs.Rules.{read_as}
use Rattle.formula_rules.proofs.Reading.{refused_read, sound_read, more_read, behind_read}
use Rattle.dqbf_lists.specs.Causes.{ListCause}
use Rattle.dqbf_lists.specs.Inner.{listed_formula}
use Rattle.dqbf_lists.proofs.check.Goals as goal
use Rattle.dqbf_lists.proofs.check.Goals.{Start}

-- what is looked for before the lists, and by the prefix that is read in them
abbrev order : Start → List Causes
order at-start = let a = at-start.args in listed_formula a.rule (formula_of a.n a.prefix.now a.clauses.now) (length a.lists.now)

abbrev later : Start → List ℕ → List Causes
later at-start read = let a = at-start.args in ListCause a.n read a.lists.now ∷ []

pub lists_verdict-requires : goal.lists_verdict-requires
lists_verdict-requires c =
    let s = (goal.at.lists_verdict-requires c).Start in
    let a = c.args in
    record {
      sound = sound_read (order s) _ a.rule a.n a.prefix.now c.in_ok-read.was c.take_listed.ensures.takes;
      short = (more_read (order s) _ a.rule a.n a.prefix.now c.in_ok-read.was c.take_listed.ensures.takes).1;
    }

pub returns-in_err-read : goal.returns-in_err-read
returns-in_err-read c =
    let s = (goal.at.returns-in_err-read c).Start in
    let a = c.args in
    rw (handed_on c.from_residual.result c.from_residual.ensures.1)
    record {
      judged = refused_read (order s) _ a.rule a.n a.prefix.now (later s (read_as a.rule a.prefix.now)) c.in_err-read.was c.take_listed.ensures.takes;
    }

pub returns : goal.returns
returns c =
    let s = (goal.at.returns c).Start in
    let a = c.args in
    let verdict = c.lists_verdict.result in
    record {
      judged = behind_read (order s) _ a.rule a.n a.prefix.now c.in_ok-read.was c.take_listed.ensures.takes
          (λ order read. Judged order verdict) (λ order order' read carries. carry_judged order order' carries verdict) (later s) c.lists_verdict.ensures.judged;
    }
