use mathlib.Core.Path.{◌≡◌}
use borrow.Author.Rules.{rules}
use Rattle.grow_clause.specs.InnerDeepest.{variable_in}
use Rattle.grow_clause.proofs.Stars.{join_none, join_pending, join_past, join_one, joined_all}
use Rattle.grow_clause.proofs.join_all.Goals as goal

pub loop-entry-init : goal.loop-entry-init
loop-entry-init c = join_none _ _ c.requires.rows

pub loop-entry-preserved-then-depths-variable-eq0 : goal.loop-entry-preserved-then-depths-variable-eq0
loop-entry-preserved-then-depths-variable-eq0 c =
    let is : c.variable-variable.result.0 ≡ variable_in c.args.clause.now c.loop-entry.entry-index = search rules in
    join_past c.requires.deepest c.loop-entry.invariant c.loop-entry-test.true (rw is at c.then-depths-variable-eq0.either)

pub merge-requires-clause-pair : goal.merge-requires-clause-pair
merge-requires-clause-pair c =
    let is : c.variable-variable.result.0 ≡ variable_in c.args.clause.now c.loop-entry.entry-index = search rules in
    rw (← is) at (join_pending c.requires.deepest c.loop-entry.invariant c.loop-entry-test.true (rw is at c.if-depths-variable-eq0.false))

pub loop-entry-preserved : goal.loop-entry-preserved
loop-entry-preserved c =
    let is : c.variable-variable.result.0 ≡ variable_in c.args.clause.now c.loop-entry.entry-index = search rules in
    join_one c.requires.deepest c.loop-entry.invariant c.loop-entry-test.true (rw is at c.if-depths-variable-eq0.false) (rw is at c.merge.ensures.joined)

pub returns : goal.returns
returns c = record { joined = joined_all c.requires.deepest c.loop-entry.invariant c.loop-entry-test.false }
