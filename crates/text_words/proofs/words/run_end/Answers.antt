use native.Mathlib.Omega.{arith}
use borrow.Author.Tests.{eq-eqb, ne_eqb}
use Rattle.text_words.specs.InnerPlaces.{in_word}
use Rattle.text_words.proofs.Leading.{past_end, passing_more, passing_stop, passing_end}
use Rattle.text_words.proofs.words.run_end.Goals as goal
use Rattle.text_words.proofs.words.run_end.Goals.{then-byte-eq-SPACE-via-then-byte-eq-SPACE, then-byte-eq-SPACE-via-else-byte-eq-SPACE+then-byte-eq-LF}

pub returns-then-byte-eq-SPACE : goal.returns-then-byte-eq-SPACE
returns-then-byte-eq-SPACE c =
    let stop = passing_stop c.loop-i.invariant c.loop-i-test.true in
    record {
      passed = elim c.then-byte-eq-SPACE.branch [
        | then-byte-eq-SPACE-via-then-byte-eq-SPACE w ↦ stop (rw (eq-eqb _ _ w.if-byte-eq-SPACE.true))
        | then-byte-eq-SPACE-via-else-byte-eq-SPACE+then-byte-eq-LF w ↦ stop (rw (ne_eqb _ _ w.if-byte-eq-SPACE.false, eq-eqb _ _ w.if-byte-eq-LF.true))
      ];
    }

pub loop-i-preserved : goal.loop-i-preserved
loop-i-preserved c =
    passing_more c.loop-i.invariant c.loop-i-test.true (rw (ne_eqb _ _ c.if-byte-eq-SPACE.false, ne_eqb _ _ c.if-byte-eq-LF.false))

pub returns : goal.returns
returns c =
    let a = c.args in
    record { passed = grind (arith, past_end in_word a.text.now a.at, passing_end c.loop-i.invariant c.loop-i-test.false, c.max.ensures) }
