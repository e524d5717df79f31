use native.Mathlib.Omega.{arith}
use borrow.Author.Tests.{eq-eqb, ne_eqb}
use Rattle.text_words.specs.InnerPlaces.{in_line}
use Rattle.text_words.proofs.Leading.{past_end, passing_more, passing_stop, passing_end}
use Rattle.text_lines.proofs.opening.line_end.Goals as goal

pub returns-then-text-i-eq-LF : goal.returns-then-text-i-eq-LF
returns-then-text-i-eq-LF c = record { passed = passing_stop c.loop-i.invariant c.loop-i-test.true (rw (eq-eqb _ _ c.if-text-i-eq-LF.true)) }

pub loop-i-preserved : goal.loop-i-preserved
loop-i-preserved c = passing_more c.loop-i.invariant c.loop-i-test.true (rw (ne_eqb _ _ c.if-text-i-eq-LF.false))

pub returns : goal.returns
returns c =
    let a = c.args in
    record { passed = grind (arith, past_end in_line a.text.now a.at, passing_end c.loop-i.invariant c.loop-i-test.false, c.max.ensures) }
