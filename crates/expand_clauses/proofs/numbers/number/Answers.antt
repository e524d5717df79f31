use mathlib.Core.Path.{◌≡◌, ◌∙◌}
use native.Mathlib.Omega.{arith}
use Rattle.std.proofs.Common.{rules}
use Rattle.expand_clauses.proofs.Numbering.{numbers_none, numbers_more}
use Rattle.expand_clauses.proofs.numbers.number.Goals as goal

pub loop-k-init : goal.loop-k-init
loop-k-init c =
    let all : c.into_iter-k-iterator.result.iter.iter.rest.now ≡ c.args.members.now = search rules in
    record { numbers = rw all (numbers_none c.args.n c.requires.blank.0 c.requires.blank.1); from_0 = search rules }

pub loop-k-preserved : goal.loop-k-preserved
loop-k-preserved c =
    let i = c.loop-k.invariant in
    let step = c.in-Some.ensures.steps in
    record { numbers = numbers_more _ i.numbers c.requires.few.2 step.1.0 (omega (arith, step.1.1, i.from_0)); from_0 = step.0 ∙ i.from_0 }
