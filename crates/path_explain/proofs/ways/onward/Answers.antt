use mathlib.Core.Path.{refl, sym, ap, ◌∙◌}
use mathlib.Core.Logic.{inl, inr, ⊎_elim}
use Rattle.formula.specs.Tables.{at}
use Rattle.forest_entries.proofs.Flags.{has_next}
use Rattle.path_check.proofs.Entries.{pass_more}
use Rattle.path_explain.specs.InnerWays.{owner_told}
use Rattle.path_explain.proofs.Choosing.{lowest_same, lowest_more}
use Rattle.path_explain.proofs.ways.onward.Goals as goal
use Rattle.path_explain.proofs.ways.onward.Goals.{then-rows-at, else-rows-at}

pub loop-i-preserved : goal.loop-i-preserved
loop-i-preserved c =
    let inv = c.loop-i.invariant in
    let v = c.variable_at-variable.result.0 in
    let read = c.variable_at-variable.ensures.read in
    let passing = pass_more inv.passing v read c.if-variable-eq0.false (λ no'. no') in
    let next = has_next c.args.clauses.now c.args.start c.loop-i.i v inv.passing.from read in
    elim c.if-rows-at.branch [
      | then-rows-at w ↦ rw w.best-is (record {
        passing = passing;
        lowest = lowest_more inv.lowest (λ u h. ((next u).0 (inl h.0), h.1)) v (owner_told w.lower-best.result) ((next v).0 (inr refl), w.if-rows-at.true)
            (λ u h. ⊎_elim (λ old. inl (old, h.1)) inr ((next u).1 h.0)) w.lower-best.ensures.lower;
      })
      | else-rows-at w ↦ rw w.best-is (record {
        passing = passing;
        lowest = lowest_same inv.lowest (λ u h. ((next u).0 (inl h.0), h.1))
            (λ u h. (⊎_elim (λ old. old) (λ e. absurd (w.if-rows-at.false (ap (at c.args.rows.now) (sym e) ∙ h.1))) ((next u).1 h.0), h.1));
      })
    ]
