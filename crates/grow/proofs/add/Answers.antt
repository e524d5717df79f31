-- The prefix is judged by the rule first; what is added by the prefix as the rule reads it stands behind that in the order.
use lib.ListN.{length}
use Rattle.formula_rules.specs.Rules.{ruled_prefix, read_as}
use Rattle.formula_rules.proofs.Reading.{refused_read, behind_read}
use Rattle.forest_tables.specs.Formula.{variables}
use Rattle.forest_tables.specs.Lent.{rows}
use Rattle.grow.specs.Grown.{Standing, standing, add_order, forest_in, Extended, Took, AddsBehind}
use Rattle.grow.specs.InnerOrders.{behind_add}
use Rattle.grow.proofs.Standings.{refusal, carry_rewrites}
use Rattle.grow.proofs.add.Goals as goal

pub returns-in-Err : goal.returns-in-Err
returns-in-Err c =
    let a = c.args in
    let s : Standing = standing (rows a.classes.now a.parents.now a.counts.now) a.tally in
    let read = read_as a.rule a.prefix.now in
    let X = variables a.n read in
    record {
      added = refusal (add_order a.rule a.n a.prefix.now s a.clause.now) X (Extended X (forest_in X s) a.clause.now) (Took X s) s.rows c.in-Err.refusal
          (refused_read (ruled_prefix a.rule a.n a.prefix.now (length a.clause.now)) _ a.rule a.n a.prefix.now (behind_add a.n read s a.clause.now)
          c.in-Err.is c.take_prefix.ensures.takes) c.refused.ensures.refused;
    }

pub returns-in-Ok : goal.returns-in-Ok
returns-in-Ok c =
    let a = c.args in
    let s : Standing = standing (rows a.classes.now a.parents.now a.counts.now) a.tally in
    let done = c.add_read in
    let left : Standing = standing (rows done.new.classes done.new.parents done.new.counts) done.result.tally in
    record {
      added =
          behind_read (ruled_prefix a.rule a.n a.prefix.now (length a.clause.now)) _ a.rule a.n a.prefix.now c.in-Ok.is c.take_prefix.ensures.takes
          (λ order read. AddsBehind order (variables a.n read) s a.clause.now left done.result.answer)
          (λ order order' read. carry_rewrites done.result.answer order order') (λ read. behind_add a.n read s a.clause.now) done.ensures.added;
    }
