use native.Mathlib.Omega.{arith}
use borrow.Author.Tests.{eq-eqb, ne_eqb}
use Rattle.text_words.specs.InnerPlaces.{is_space}
use Rattle.text_words.proofs.Leading.{past_end, passing_more, passing_stop, passing_end}
use Rattle.text_words.proofs.words.gap_end.Goals as goal

pub returns-then-text-i-ne-SPACE : goal.returns-then-text-i-ne-SPACE
returns-then-text-i-ne-SPACE c = record { passed = passing_stop c.loop-i.invariant c.loop-i-test.true (ne_eqb _ _ c.if-text-i-ne-SPACE.true) }

pub loop-i-preserved : goal.loop-i-preserved
loop-i-preserved c = passing_more c.loop-i.invariant c.loop-i-test.true (eq-eqb _ _ c.if-text-i-ne-SPACE.false)

pub returns : goal.returns
returns c =
    let a = c.args in
    record { passed = grind (arith, past_end is_space a.text.now a.at, passing_end c.loop-i.invariant c.loop-i-test.false, c.max.ensures) }
