-- Each scheme is one case: sole_along for either sign, sole_both for what both have.
use mathlib.Core.Path.{sym, subst}
use mathlib.Core.Bool.{Bool}
use mathlib.Core.Logic.{inl, inr, ⊎_elim}
use Rattle.terms.specs.declared.Scheme.{Scheme}
use Rattle.forest_entries.specs.InnerFlags.{Takes, Via}
use Rattle.forest_entries.proofs.Flags.{via_as, via_or}
use Rattle.sets_occurrences.specs.InnerThreads.{Together}
use Rattle.sets_occurrences.specs.InnerSoleTops.{Sole, SoleOf}
use Rattle.sets_occurrences.proofs.SoleTops.{sole_as}
use Rattle.sets_occurrences.proofs.soles.sole_point.Goals as goal

pub returns-in-Standard : goal.returns-in-Standard
returns-in-Standard c =
    let Told : Sole → Scheme → Type 0 = λ r scheme. SoleOf r (λ e. Takes scheme (λ (sign : Bool). Via c.args.n c.args.tops.now (Together c.args.clauses.now sign c.args.x.0) e)) in
    let sole = c.sole_along in
    record {
      sole = subst (Told sole.result) (sym c.in-Standard.is)
          (sole_as (λ e. (via_or, ⊎_elim (via_as (λ y. inl)) (via_as (λ y. inr)))) sole.result sole.ensures.sole);
    }

pub returns-in-Strict : goal.returns-in-Strict
returns-in-Strict c =
    let Told : Sole → Scheme → Type 0 = λ r scheme. SoleOf r (λ e. Takes scheme (λ (sign : Bool). Via c.args.n c.args.tops.now (Together c.args.clauses.now sign c.args.x.0) e)) in
    record { sole = subst (Told c.sole_both.result) (sym c.in-Strict.is) c.sole_both.ensures.sole }
