use mathlib.Core.Path.{sym, ◌∙◌, subst}
use mathlib.Core.Logic.{inl, inr, ⊎_elim}
use native.Mathlib.Omega.{arith}
use Rattle.path_explain.specs.InnerWays.{OpensBy, owner_told}
use Rattle.path_explain.proofs.Choosing.{before_longer, before_here, before_cases, best_same, best_more}
use Rattle.path_explain.proofs.ways.first_clause.Goals as goal
use Rattle.path_explain.proofs.ways.first_clause.Goals.{then-opens, else-opens}

pub loop-i-preserved : goal.loop-i-preserved
loop-i-preserved c =
    let inv = c.loop-i.invariant in
    let i = c.loop-i.i in
    let read = c.literal_at.ensures.read in
    elim c.if-opens.branch [
      | then-opens w ↦
          let high = w.unpack.ensures.both.1 in
          let small = c.requires.owned.0.1 i in
          let opens = subst (OpensBy c.args.signs c.args.x.0) read w.if-opens.ensures.told in
          rw w.best-is (record {
            best = best_more inv.best w.unpack.result.high (owner_told w.nearer-best.result) (before_longer i) (λ k q. before_here i k (sym high ∙ q) opens)
                (λ k h. ⊎_elim inl (λ here. inr (high ∙ here.1)) (before_cases i k h)) w.nearer-best.ensures.nearer;
            within = ⊎_elim (λ same. omega (arith, inv.within)) (λ new. omega (arith, new.0)) w.nearer-best.ensures.nearer.is;
          })
      | else-opens w ↦ rw w.best-is (record {
        best = best_same inv.best (before_longer i)
            (λ k h. ⊎_elim (λ old. old) (λ here. absurd (w.if-opens.ensures.told (subst (OpensBy c.args.signs c.args.x.0) (sym read) here.0))) (before_cases i k h));
        within = inv.within;
      })
    ]
