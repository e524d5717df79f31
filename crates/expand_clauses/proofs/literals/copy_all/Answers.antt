use native.Mathlib.Omega.{arith}
use Rattle.formula.proofs.Lookups.{part_rows}
use Rattle.formula.proofs.Signs.{stamps_more, stamps_none}
use Rattle.expand_clauses.specs.InnerCopied.{tabled}
use Rattle.expand_clauses.proofs.Copying.{clauses_none, clauses_more, clauses_open, clauses_all, part_short}
use Rattle.expand_clauses.proofs.literals.copy_all.Goals as goal

pub loop-start-init : goal.loop-start-init
loop-start-init c =
    let a = c.args in
    record { copied = clauses_none a.value a.x.0 (tabled a.copies.now) a.clauses.now a.out.now a.at; stamps = stamps_none }

pub returns-then-clauses-stop : goal.returns-then-clauses-stop
returns-then-clauses-stop c =
    let all = clauses_open c.loop-start.invariant.copied c.next_zero-stop.result c.next_zero-stop.ensures.next c.if-clauses-stop.true in
    record { stored = all.0; few = all.1 }

pub copy_clause-end-requires : goal.copy_clause-end-requires
copy_clause-end-requires c =
    let a = c.args in
    let next = c.next_zero-stop in
    let start = c.loop-start.start in
    let i = c.loop-start.invariant in
    let (clauses, copies, low) = c.requires.sound in
    record {
      sound = (
        part_rows a.clauses.now start next.result (omega (arith, c.if-clauses-stop.false)) clauses.rows,
        stamps_more i.stamps (omega (arith, next.ensures.next.from)),
        copies,
        omega (arith, part_short a.clauses.now start next.result, clauses.short),
        omega (arith, i.copied.few, i.copied.within, clauses.short, low),
      );
    }

pub loop-start-preserved : goal.loop-start-preserved
loop-start-preserved c =
    let (stored, stamps) = c.copy_clause-end.ensures.stored in
    record {
      copied = clauses_more c.loop-start.invariant.copied c.next_zero-stop.result c.next_zero-stop.ensures.next c.if-clauses-stop.false stored;
      stamps = stamps;
    }

pub returns : goal.returns
returns c =
    let all = clauses_all c.loop-start.invariant.copied c.loop-start-test.false in
    record { stored = all.0; few = all.1 }
