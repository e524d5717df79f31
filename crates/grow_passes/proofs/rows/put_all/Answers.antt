use native.Mathlib.Omega.{arith}
use Rattle.formula.proofs.Lookups.{part_rows}
use Rattle.formula.proofs.Signs.{stamps_none}
use Rattle.grow_passes.proofs.Passes.{put_none, put_clause, put_over, put_open}
use Rattle.grow_passes.proofs.rows.put_all.Goals as goal

pub loop-start-init : goal.loop-start-init
loop-start-init c = (put_none _ c.requires.single, stamps_none)

pub returns-then-clauses-end : goal.returns-then-clauses-end
returns-then-clauses-end c =
    let put = put_open c.loop-start.invariant.0 c.next_zero-end.result c.next_zero-end.ensures.next c.if-clauses-end.true in
    record { holds = put.0; number = put.1 }

pub put-requires-clause-literals : goal.put-requires-clause-literals
put-requires-clause-literals c = part_rows _ _ _ (omega arith) c.requires.clauses.rows

pub loop-start-preserved : goal.loop-start-preserved
loop-start-preserved c =
    let next = c.next_zero-end in
    let put = c.put.ensures in
    (put_clause c.loop-start.invariant.0 next.result next.ensures.next c.if-clauses-end.false put.joined, put.stamps)

pub returns : goal.returns
returns c =
    let put = put_over c.loop-start.invariant.0 c.loop-start-test.false in
    record { holds = put.0; number = put.1 }
