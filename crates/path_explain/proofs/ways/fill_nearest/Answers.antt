use mathlib.Core.Path.{sym, ◌∙◌}
use mathlib.Core.Logic.{inl, inr, ⊎_elim}
use native.Mathlib.Omega.{arith}
use Rattle.path_explain.proofs.Choosing.{before_longer, before_here, before_cases, nearest_more, nearest_past}
use Rattle.path_explain.proofs.ways.fill_nearest.Goals as goal
use Rattle.path_explain.proofs.ways.fill_nearest.Goals.{then-is_nearer, else-is_nearer}

pub loop-i-preserved : goal.loop-i-preserved
loop-i-preserved c =
    let inv = c.loop-i.invariant in
    let i = c.loop-i.i in
    let v = c.variable_at-at.result.0 in
    let read = c.variable_at-at.ensures.read in
    let owner = c.unpack-owner.result.high in
    let high = c.unpack-owner.ensures.both.1 in
    let row = c.requires.owned.0.rows i c.loop-i-test.true in
    elim c.if-is_nearer.branch [
      | then-is_nearer w ↦ rw w.nearest-is
          (nearest_more inv v owner (λ u. before_longer i) (λ k q. before_here i k (sym high ∙ q) (sym read))
          (λ u k h. ⊎_elim inl (λ here. inr (sym here.0 ∙ sym read, high ∙ here.1)) (before_cases i k h)) (omega (arith, inv.size)) w.if-is_nearer.ensures.told)
      | else-is_nearer w ↦ rw w.nearest-is
          (nearest_past inv v owner (λ u. before_longer i) (λ k q. before_here i k (sym high ∙ q) (sym read))
          (λ u k h. ⊎_elim inl (λ here. inr (sym here.0 ∙ sym read, high ∙ here.1)) (before_cases i k h)) w.if-is_nearer.ensures.told)
    ]
