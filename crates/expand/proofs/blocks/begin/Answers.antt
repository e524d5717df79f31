-- Where the mark differs from that of the open block, the 0 that closes that block and the new mark are written; else nothing is.
use native.Mathlib.Omega.{arith}
use Rattle.expand.proofs.Blocking.{begun_already, begun_new, closing_most}
use borrow.Author.Rules.{rules}
use Rattle.expand.proofs.blocks.begin.Goals as goal

pub returns-then-mark-last : goal.returns-then-mark-last
returns-then-mark-last c =
    let a = c.args in
    record { stored = begun_already a.out.now a.at a.mark a.last c.if-mark-last.true }

pub close-closed-requires : goal.close-closed-requires
close-closed-requires c = record { within = search rules }

pub store-requires : goal.store-requires
store-requires c = search rules

pub overflow_add-result : goal.overflow_add-result
overflow_add-result c =
    let most = closing_most c.args.last in
    omega (arith, c.close-closed.ensures.stored.count, c.requires.within)

pub shape_of-out : goal.shape_of-out
shape_of-out c = search rules

pub returns : goal.returns
returns c =
    let a = c.args in
    record { stored = begun_new a.mark a.last c.if-mark-last.false c.close-closed.ensures.stored c.store.ensures.stored }
