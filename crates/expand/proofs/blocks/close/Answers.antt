-- Where a block is open its 0 is stored, and else nothing is left to write.
use Rattle.expand.proofs.Blocking.{closed_none, closed_zero}
use borrow.Author.Rules.{rules}
use Rattle.expand.proofs.blocks.close.Goals as goal

pub returns-then-last-eq0 : goal.returns-then-last-eq0
returns-then-last-eq0 c =
    let a = c.args in
    record { stored = closed_none a.out.now a.at a.last c.if-last-eq0.true }

pub store-requires : goal.store-requires
store-requires c = search rules

pub overflow_add-result : goal.overflow_add-result
overflow_add-result c = search rules

pub shape_of-out : goal.shape_of-out
shape_of-out c = search rules

pub returns : goal.returns
returns c =
    let a = c.args in
    record { stored = closed_zero a.out.now a.at a.last c.if-last-eq0.false c.store.ensures.stored }
