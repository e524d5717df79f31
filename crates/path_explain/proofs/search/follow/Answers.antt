use Prim.Native.Nat.{suc, ◌-◌, ◌≤◌, ◌<◌}
use mathlib.Core.Path.{◌≡◌, sym, ap, ◌∙◌, subst}
use mathlib.Core.List.Memᴰ
use mathlib.Core.Logic.{inl, inr, ⊎_elim}
use native.Mathlib.Omega.{arith}
use Rattle.terms.specs.Literals.{variable_of}
use Rattle.terms.specs.Limits.{clause_entries}
use Rattle.sets_occurrences.specs.InnerThreads.{On, link_at}
use Rattle.sets_occurrences.proofs.Chains.{on_some, on_here, on_later, on_cases}
use Rattle.path_check.specs.Paths.{HasVariable}
use Rattle.path_check.proofs.Reached.{in_count}
use Rattle.path_explain.specs.InnerTies.{owner_at}
use Rattle.path_explain.proofs.Searches.{kept_more, kept_at}
use Rattle.path_explain.proofs.search.follow.Goals as goal
use Rattle.path_explain.proofs.search.follow.Goals.{In-loop-at}

-- The entry that is looked at is on the chain: what it owns, and where the chain goes on.
on : (c : In-loop-at) → On c.args.next.now (c.loop-at.at - 1) c.args.head
on c = c.loop-at.invariant.ahead (c.loop-at.at - 1) (on_here (c.loop-at.at - 1) (omega (arith, c.loop-at-test.true)))

link : (c : In-loop-at) → (c.loop-at.at - 1 < clause_entries) × (link_at c.args.next.now (c.loop-at.at - 1) ≤ c.loop-at.at - 1)
link c = c.requires.tied.1.falls (c.loop-at.at - 1) (on c)

pub bounds-next-at : goal.bounds-next-at
bounds-next-at c = omega (arith, (link (goal.at.bounds-next-at c).In-loop-at).0, c.requires.tied.1.size)

pub enter-end-requires-clause-owner : goal.enter-end-requires-clause-owner
enter-end-requires-clause-owner c =
    let (j, q, owns) = c.requires.tied.1.owned (c.loop-at.at - 1) (on (goal.at.enter-end-requires-clause-owner c).In-loop-at) in
    (j, c.unpack-pair.ensures.both.1 ∙ q, owns.plain, in_count c.args.clauses.now j _ (Memᴰ.map variable_of owns.is))

pub loop-at-smaller : goal.loop-at-smaller
loop-at-smaller c = omega (arith, c.unpack-pair.ensures.both.0, (link (goal.at.loop-at-smaller c).In-loop-at).1, c.loop-at-test.true)

pub loop-at-preserved : goal.loop-at-preserved
loop-at-preserved c =
    let p = c.loop-at.at - 1 in
    let next = c.args.next.now in
    let inv = c.loop-at.invariant in
    let on-chain = on (goal.at.loop-at-preserved c).In-loop-at in
    let here : c.loop-at.at ≡ suc p = omega (arith, c.loop-at-test.true) in
    let (low, high) = c.unpack-pair.ensures.both in
    let (j, q, owns) = c.requires.tied.1.owned p on-chain in
    let entered = c.enter-end.ensures in
    let kept = entered.room.1 in
    record {
      room = entered.room.0;
      kept = kept_more inv.kept kept;
      entered = λ o k on-head own. ⊎_elim
          (λ ahead. ⊎_elim (λ e. inr (entered.entered k (high ∙ ap (owner_at next) (sym e) ∙ own))) (λ later. inl (subst (On next o) (sym low) later)) (on_cases p here ahead))
          (λ done. inr (λ z. done (sym (kept.clause k done) ∙ z))) (inv.entered o k on-head own);
      ahead = λ o ahead. inv.ahead o (on_later p here (subst (On next o) low ahead));
      searched = λ y begin s l is heading.
          let more = inv.kept.tail_kept in
          entered.searched y begin j (inv.searched y begin s l is heading) (high ∙ q) (omega arith) (kept_at inv.kept begin l (λ z. c.requires.room.2 (sym is ∙ z)) ∙ is)
          (owns.plain, subst (HasVariable c.args.clauses.now j) (heading p on-chain ∙ sym (inv.kept.queue_kept begin l)) (Memᴰ.map variable_of owns.is));
    }

pub returns-clause-entered : goal.returns-clause-entered
returns-clause-entered c = λ p k o q. ⊎_elim (λ ahead. absurd (on_some ahead c.loop-at-test.false)) (λ done. done) (c.loop-at.invariant.entered p k o q)
