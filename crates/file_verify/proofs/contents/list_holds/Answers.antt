-- A record of another size does not have the numbers; one of the right size has them if they agree from its payload on.
use Prim.Native.Nat.{◌+◌, ◌*◌, ◌<◌}
use mathlib.Core.Path.{refl}
use mathlib.Core.Logic.{inl}
use native.Mathlib.Omega.{arith}
use lib.ListN.{length}
use Rattle.file_layout.proofs.Spans.{laid_ends}
use Rattle.file_verify.proofs.Agreement.{other_size, holds_both, tells_iff}
use Rattle.file_verify.proofs.contents.list_holds.Goals as goal
use Rattle.file_verify.proofs.contents.list_holds.Goals.{After-fourth_at-fourth}

-- Every place that is read is near enough.
near : (c : After-fourth_at-fourth) → c.fourth_at-fourth.result + 6 + 2 * length c.args.list.now < 1048576
near c = let ends = laid_ends c.args.file.now c.requires.small.0 in omega (arith, c.fourth_at-fourth.ensures.found, ends.fourth, c.requires.small.1)

pub size_at-size-requires : goal.size_at-size-requires
size_at-size-requires c = record { near = omega (arith, near (goal.at.size_at-size-requires c).After-fourth_at-fourth) }

pub returns-then-size-list : goal.returns-then-size-list
returns-then-size-list c =
    let a = c.args in
    record { told = other_size 2 a.file.now c.fourth_at-fourth.ensures.found a.list.now c.size_at-size.ensures.read c.if-size-list.true }

pub overflow_add-fourth : goal.overflow_add-fourth
overflow_add-fourth c = omega (arith, near (goal.at.overflow_add-fourth c).After-fourth_at-fourth)

pub same_numbers-requires : goal.same_numbers-requires
same_numbers-requires c = record { near = (inl refl, omega (arith, near (goal.at.same_numbers-requires c).After-fourth_at-fourth)) }

pub returns : goal.returns
returns c =
    let a = c.args in
    let both = holds_both 2 a.file.now c.fourth_at-fourth.ensures.found a.list.now c.size_at-size.ensures.read c.if-size-list.false in
    record { told = tells_iff c.same_numbers.result both c.same_numbers.ensures.told }
