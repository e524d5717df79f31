use mathlib.Core.Path.{sym, ap, ◌∙◌}
use Rattle.terms.specs.Literals.{variable_of}
use Rattle.forest_entries.proofs.Sides.{sided_here, sided_past}
use Rattle.forest_entries.proofs.Flags.{unclosed_more}
use Rattle.forest_entries.proofs.scan_clause.Goals as goal
use Rattle.forest_entries.proofs.scan_clause.Goals.{then-variable-x, else-variable-x}

pub loop-i-preserved : goal.loop-i-preserved
loop-i-preserved c =
    let a = c.args in
    let (unclosed, sided) = c.loop-i.invariant in
    let literal = c.literal_at-literal in
    let own = c.variable-variable.ensures.own in
    let read = own ∙ ap variable_of literal.ensures.read in (
      unclosed_more unclosed c.loop-i-test.true read c.if-variable-eq0.false,
      elim c.if-variable-x.branch [
        | then-variable-x w ↦ rw w.side-is
            (sided_here a.clauses.now a.start a.x.0 c.loop-i.i unclosed.from w.side_of-side.result literal.result.0 literal.ensures.read
            (sym own ∙ w.if-variable-x.true) w.side_of-side.ensures.sided)
        | else-variable-x w ↦ rw w.side-is
            (sided_past a.clauses.now a.start a.x.0 c.loop-i.i unclosed.from c.loop-i.side (λ q. w.if-variable-x.false (read ∙ q)) sided)
      ],
    )
