-- Past the text no byte stands, and so no `-`; within it the byte that was read tells.
use mathlib.Core.Path.{refl}
use native.Mathlib.Omega.{arith}
use lib.ListN.{get_or-eq_default}
use Rattle.text_words.specs.InnerPlaces.{minus, unsigned}
use Rattle.text_words.proofs.words.after_sign.Goals as goal

pub returns-then-text-at : goal.returns-then-text-at
returns-then-text-at c =
    let a = c.args in
    let none = get_or-eq_default a.text.now 0 {n = a.at} c.if-text-at.true in
    record { signed = unsigned (λ e. omega arith) refl }

pub returns-then-text-at-eq-MINUS : goal.returns-then-text-at-eq-MINUS
returns-then-text-at-eq-MINUS c = record { signed = minus c.if-text-at.false c.if-text-at-eq-MINUS.true refl }

pub returns-else-text-at-eq-MINUS : goal.returns-else-text-at-eq-MINUS
returns-else-text-at-eq-MINUS c = record { signed = unsigned c.if-text-at-eq-MINUS.false refl }
