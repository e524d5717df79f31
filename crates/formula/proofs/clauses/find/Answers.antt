use mathlib.Core.Path.{ap}
use lib.ListN.{drop_of_length-le}
use Rattle.formula.specs.Meaning.{clauses}
use Rattle.formula.specs.Tables.{cut}
use Rattle.formula.proofs.Lookups.{pass_clause, stands_here, stands_nowhere, clauses_unclosed}
use Rattle.formula.proofs.clauses.find.Goals as goal

pub returns-then-clauses-end : goal.returns-then-clauses-end
returns-then-clauses-end c =
    let ls = c.args.clauses.now in
    let next = c.next_zero-end in
    record { stands = stands_nowhere c.loop-start.invariant (clauses_unclosed ls c.loop-start.start next.result next.ensures.next c.if-clauses-end.true) }

pub returns-then-left-eq0 : goal.returns-then-left-eq0
returns-then-left-eq0 c =
    let next = c.next_zero-end in
    record { stands = stands_here c.loop-start.invariant next.result next.ensures.next c.if-clauses-end.false c.if-left-eq0.true }

pub loop-start-preserved : goal.loop-start-preserved
loop-start-preserved c =
    let next = c.next_zero-end in
    pass_clause c.loop-start.invariant next.result next.ensures.next c.if-clauses-end.false c.if-left-eq0.false

pub returns : goal.returns
unfolding clauses cut
returns c = record { stands = stands_nowhere c.loop-start.invariant (ap clauses (drop_of_length-le c.args.clauses.now c.loop-start-test.false)) }
