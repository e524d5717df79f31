-- Where the first byte but spaces is neither letter, or no byte is left, the next word is neither `e` nor `a` (unmarked); `true` promises nothing.
use mathlib.Core.Path.{◌≡◌}
use mathlib.Core.Bool.{true≢false}
use native.Mathlib.Omega.{arith}
use lib.ListN.{get_or, get_or-eq_default}
use Rattle.text_lines.proofs.Bodies.{unmarked}
use Rattle.text_lines.proofs.body.may_be_mark.Goals as goal

pub returns-then-text-start : goal.returns-then-text-start
returns-then-text-start c =
    let a = c.args in
    let start = c.gap_end-start.result in
    let over : get_or a.text.now start 0 ≡ 0 = get_or-eq_default a.text.now 0 c.if-text-start.true in
    record { unmarked = λ _. unmarked a.text.now a.at start c.gap_end-start.ensures.passed (λ e. omega (arith, e, over)) (λ e. omega (arith, e, over)) }

pub returns-then-byte-eq-LETTER_E : goal.returns-then-byte-eq-LETTER_E
returns-then-byte-eq-LETTER_E c = record { unmarked = λ e. absurd (true≢false e) }

pub returns-then-byte-eq-LETTER_A : goal.returns-then-byte-eq-LETTER_A
returns-then-byte-eq-LETTER_A c = record { unmarked = λ e. absurd (true≢false e) }

pub returns : goal.returns
returns c =
    let a = c.args in
    record { unmarked = λ _. unmarked a.text.now a.at c.gap_end-start.result c.gap_end-start.ensures.passed c.if-byte-eq-LETTER_E.false c.if-byte-eq-LETTER_A.false }
