-- Each scheme is one case: either sign, or what both have in common (common_both).
use Prim.Native.Nat.{ℕ}
use mathlib.Core.Path.{sym, subst}
use mathlib.Core.Bool.{Bool, true, false}
use mathlib.Core.Logic.{inl, inr, ⊎_elim}
use Rattle.terms.specs.declared.Scheme.{Scheme}
use Rattle.forest_entries.specs.InnerFlags.{Takes, Via}
use Rattle.forest_entries.proofs.Flags.{via_as, via_or}
use Rattle.sets_occurrences.specs.InnerThreads.{Together}
use Rattle.sets_occurrences.specs.InnerSoleTops.{Sole, SoleOf}
use Rattle.sets_occurrences.proofs.SoleTops.{sole_as}
use Rattle.sets_sizes.proofs.NotedTops.{common_both}
use Rattle.sets_sizes.proofs.noting.sole_point.Goals as goal

pub sole_along-other-requires : goal.sole_along-other-requires
sole_along-other-requires c =
    let (few, within, _) = c.requires.notes in
    record {
      tied = c.requires.tied;
      notes = (few, within, c.sole_along-one.ensures.noted);
    }

pub returns-in-Standard : goal.returns-in-Standard
returns-in-Standard c =
    let Tops : Bool → ℕ → Type 0 = λ sign. Via c.args.n c.args.tops.now (Together c.args.clauses.now sign c.args.x.0) in
    let Told : Sole → Scheme → Type 0 = λ r scheme. SoleOf r (λ e. Takes scheme (λ (sign : Bool). Tops sign e)) in
    let sole = c.sole_along in
    record {
      sole = subst (Told sole.result) (sym c.in-Standard.is)
          (sole_as (λ e. (via_or, ⊎_elim (via_as (λ y. inl)) (via_as (λ y. inr)))) sole.result sole.ensures.sole);
      noted = sole.ensures.noted;
    }

pub returns-in-Strict : goal.returns-in-Strict
returns-in-Strict c =
    let Tops : Bool → ℕ → Type 0 = λ sign. Via c.args.n c.args.tops.now (Together c.args.clauses.now sign c.args.x.0) in
    let Told : Sole → Scheme → Type 0 = λ r scheme. SoleOf r (λ e. Takes scheme (λ (sign : Bool). Tops sign e)) in
    let one = c.sole_along-one in
    let other = c.sole_along-other in
    record {
      sole = subst (Told c.common.result) (sym c.in-Strict.is)
          (common_both (Tops true) (Tops false) c.common.result one.result other.result c.common.ensures.common one.ensures.sole other.ensures.sole);
      noted = other.ensures.noted;
    }
