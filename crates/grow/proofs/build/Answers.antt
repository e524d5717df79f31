-- The formula is judged by the rule first; what is built by the prefix as the rule reads it stands behind that in the order.
use mathlib.Core.List.{[], ◌∷◌}
use Rattle.terms.specs.Refusals.{At0}
use Rattle.formula.specs.Lent.{formula_of}
use Rattle.formula_rules.specs.Rules.{check_order, read_by}
use Rattle.formula_rules.proofs.Reading.{refused_read}
use Rattle.forest_tables.specs.Formula.{Shares}
use Rattle.forest_tables.specs.Lent.{rows, variables_of}
use Rattle.grow.specs.Grown.{Standing, standing, TooShort, Tallies, build_order}
use Rattle.grow.proofs.Standings.{refusal}
use Rattle.grow.proofs.build.Goals as goal

pub returns-in-Err : goal.returns-in-Err
returns-in-Err c =
    let a = c.args in
    let f = formula_of a.n a.prefix.now a.clauses.now in
    let X = variables_of (read_by a.rule f) in
    let s : Standing = standing (rows a.classes.now a.parents.now a.counts.now) a.tally in
    record {
      built = refusal (build_order a.rule f s) X (Shares a.clauses.now) (Tallies X a.clauses.now) s.rows c.in-Err.refusal
          (refused_read (check_order a.rule f) _ a.rule a.n a.prefix.now (At0 14 (TooShort a.n s) ∷ []) c.in-Err.is c.take_formula.ensures.takes)
          c.refused.ensures.refused;
    }
