-- Of the clause judged last it is recalled; any other is judged now, by a stamp greater than all before.
use Prim.Native.Nat.{◌≤◌}
use native.Mathlib.Omega.{arith}
use lib.ListN.{length}
use Rattle.formula.proofs.Lookups.{part_rows}
use Rattle.formula.proofs.Signs.{stamps_more}
use Rattle.sets_occurrences.proofs.is_true.Goals as goal

pub returns-then-start-judged : goal.returns-then-start-judged
returns-then-start-judged c = record { told = c.requires.recalled.2.0 c.if-start-judged.true }

pub overflow_add-stamp : goal.overflow_add-stamp
overflow_add-stamp c =
    let within : c.next_zero-end.result ≤ length c.args.clauses.now = c.next_zero-end.ensures.next.within c.requires.recalled.1 in
    omega (arith, within, c.requires.recalled.0.short)

pub overflow_cast-stamp : goal.overflow_cast-stamp
overflow_cast-stamp c =
    let within : c.next_zero-end.result ≤ length c.args.clauses.now = c.next_zero-end.ensures.next.within c.requires.recalled.1 in
    omega (arith, within, c.requires.recalled.0.short)

pub always_true-requires : goal.always_true-requires
always_true-requires c =
    let within : c.next_zero-end.result ≤ length c.args.clauses.now = c.next_zero-end.ensures.next.within c.requires.recalled.1 in
    let a = c.args in
    let pre = c.requires in
    let next = c.next_zero-end.ensures in
    let stamps = pre.recalled.2.1 c.if-start-judged.false in
    record {
      rows = part_rows a.clauses.now a.start c.next_zero-end.result (within) pre.recalled.0.rows;
      stamps = stamps_more stamps (omega (arith, next.next.from));
    }

pub returns : goal.returns
returns c =
    let told = c.always_true.ensures.truth in
    let stamps = c.always_true.ensures.stamped in
    record { told = record { end = c.next_zero-end.result; next = c.next_zero-end.ensures.next; told = told; stamps = stamps } }
