use mathlib.Core.Path.{refl, sym, ◌∙◌}
use mathlib.Core.Logic.{inr, ⊎_elim}
use native.Mathlib.Omega.{arith}
use Rattle.sets_occurrences.proofs.Followed.{trace_none, trace_link, trace_clause, trace_more, trace_past, trace_all}
use Rattle.sets_sizes.proofs.NotedTops.{trace_start}
use Rattle.sets_sizes.proofs.noting.sole_along.Goals as goal

pub loop-at-init : goal.loop-at-init
loop-at-init c = record { tracing = trace_none c.requires.tied refl (omega (arith, c.type_inv.first c.args.x.0)); noted = c.requires.notes.2 }

pub bounds-next-entry : goal.bounds-next-entry
bounds-next-entry c = omega (arith, (trace_link c.loop-at.invariant.tracing c.loop-at-test.true).0, c.requires.tied.links)

pub clause_top-requires : goal.clause_top-requires
clause_top-requires c =
    let (few, within, _) = c.requires.notes in
    let l = c.loop-at.invariant in
    record { notes = (few, within, trace_start l.tracing c.loop-at-test.true c.unpack-row.ensures.both.1, l.noted) }

pub loop-at-smaller-then-has_sign : goal.loop-at-smaller-then-has_sign
loop-at-smaller-then-has_sign c = omega (arith, (trace_link c.loop-at.invariant.tracing c.loop-at-test.true).1, c.unpack-row.ensures.both.0)

-- an entry with one of the signs, whose clause has no other top
pub loop-at-preserved-then-has_sign : goal.loop-at-preserved-then-has_sign
loop-at-preserved-then-has_sign c =
    let l = c.loop-at in
    let a = c.args in
    let some = c.loop-at-test.true in
    let side = c.side_of-side in
    let (low, high) = c.unpack-row.ensures.both in
    let has = sym c.has_sign.ensures.told ∙ c.if-has_sign.true in
    let (z, closes) = trace_clause l.invariant.tracing some high in
    let told = c.in_ok-sole.ensures.sole z closes in
    record {
      tracing =
          trace_more l.invariant.tracing some c.literal_at.ensures.read side.result side.ensures.sided low high _ has z closes (λ e _. told e);
      noted = c.clause_top.ensures.noted;
    }

pub loop-at-smaller : goal.loop-at-smaller
loop-at-smaller c = omega (arith, (trace_link c.loop-at.invariant.tracing c.loop-at-test.true).1, c.unpack-row.ensures.both.0)

-- an entry with none of them
pub loop-at-preserved : goal.loop-at-preserved
loop-at-preserved c =
    let l = c.loop-at.invariant in
    let side = c.side_of-side in
    let (low, high) = c.unpack-row.ensures.both in
    let not = sym c.has_sign.ensures.told ∙ c.if-has_sign.false in
    record {
      tracing = trace_past l.tracing c.loop-at-test.true c.literal_at.ensures.read side.result side.ensures.sided low high not;
      noted = l.noted;
    }

pub returns : goal.returns
returns c =
    let l = c.loop-at.invariant in
    record {
      sole = λ e. let all = trace_all l.tracing c.requires.tied refl c.loop-at-test.false e tt in
          (λ t. ⊎_elim (λ o. absurd o) (λ v. v) (all.0 t), λ v. all.1 (inr v));
      noted = l.noted;
    }
