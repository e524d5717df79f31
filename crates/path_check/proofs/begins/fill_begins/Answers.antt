use mathlib.Core.Path.{sym, ap, ◌∙◌}
use native.Mathlib.Omega.{arith}
use lib.ListN.{drop_of_length-le}
use Rattle.formula.specs.Meaning.{clauses}
use Rattle.formula.specs.Tables.{cut}
use Rattle.formula.proofs.Lookups.{clauses_unclosed}
use Rattle.formula.proofs.Signs.{stamps_none}
use Rattle.path_check.proofs.Beginning.{fill_none, fill_more, fill_all}
use Rattle.path_check.proofs.begins.fill_begins.Goals as goal

pub loop-start-init : goal.loop-start-init
loop-start-init c = (fill_none c.args.clauses.now c.args.begins.now c.requires.room.1, stamps_none)

pub shape_of-begins-then-clauses-end : goal.shape_of-begins-then-clauses-end
shape_of-begins-then-clauses-end c = c.loop-start.invariant.0.size ∙ sym c.requires.room.1

pub returns-then-clauses-end : goal.returns-then-clauses-end
returns-then-clauses-end c =
    let loop = c.loop-start in
    record { filled = fill_all loop.invariant.0 c.requires.room.0.short (clauses_unclosed c.args.clauses.now loop.start c.next_zero-end.result c.next_zero-end.ensures.next c.if-clauses-end.true) }

pub row_of-requires : goal.row_of-requires
row_of-requires c = record { there = (c.requires.room.0, c.next_zero-end.ensures.next, c.if-clauses-end.false, c.loop-start.invariant.1) }

pub offset_bounds-begins-count : goal.offset_bounds-begins-count
offset_bounds-begins-count c =
    let few = c.loop-start.invariant.0.few in
    let short = c.requires.room.0.short in
    let less = c.loop-start-test.true in
    record { fits = omega arith }

pub bounds-begins-count : goal.bounds-begins-count
bounds-begins-count c =
    let few = c.loop-start.invariant.0.few in
    let short = c.requires.room.0.short in
    let less = c.loop-start-test.true in
    let size = c.loop-start.invariant.0.size in
    omega arith

pub overflow_add-count : goal.overflow_add-count
overflow_add-count c =
    let few = c.loop-start.invariant.0.few in
    let short = c.requires.room.0.short in
    let less = c.loop-start-test.true in
    record { fits = omega arith }

pub loop-start-smaller : goal.loop-start-smaller
loop-start-smaller c =
    let from = c.next_zero-end.ensures.next.from in
    let less = c.if-clauses-end.false in
    omega arith

pub loop-start-preserved : goal.loop-start-preserved
loop-start-preserved c =
    let row = c.row_of in (
      fill_more c.loop-start.invariant.0 c.requires.room.0.short c.next_zero-end.result row.result c.next_zero-end.ensures.next
          c.if-clauses-end.false row.ensures.own.0,
      row.ensures.own.1,
    )

pub shape_of-begins : goal.shape_of-begins
shape_of-begins c = c.loop-start.invariant.0.size ∙ sym c.requires.room.1

pub returns : goal.returns
unfolding clauses cut
returns c = record { filled = fill_all c.loop-start.invariant.0 c.requires.room.0.short (ap clauses (drop_of_length-le c.args.clauses.now c.loop-start-test.false)) }
