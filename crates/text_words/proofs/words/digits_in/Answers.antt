-- The bytes that the loop passes are the word's (sliced), and each that is a digit brings the number one digit on, while any other ends it.
use Prim.Native.Nat.{ℕ, ◌+◌, ◌-◌, ◌≤◌}
use mathlib.Core.Path.{◌≡◌, sym, ap, ◌∙◌}
use mathlib.Core.Bool.{false, ◌&&◌}
use mathlib.Core.List.{List}
use native.Mathlib.Omega.{arith}
use native.Mathlib.Numerals.{add-one}
use lib.Dec.{leb, lit<}
use lib.ListN.{get_or, drop_of_length-le}
use lib.Seq.{slice, drop-cons}
use borrow.Author.Tests.{le-leb, lt-leb}
use Rattle.std.specs.List.{slice_range}
use Rattle.std.proofs.lemmas.List.{drop-take}
use Rattle.text_words.specs.Words.{ZERO}
use Rattle.text_words.specs.InnerNumbers.{NINE}
use Rattle.text_words.specs.InnerPlaces.{spelt_of}
use Rattle.text_words.proofs.Numbers.{spelt_digit, spelt_other, spelt_none, power_next}
use Rattle.text_words.proofs.words.digits_in.Goals as goal
use Rattle.text_words.proofs.words.digits_in.Goals.{then-byte-lt-ZERO-via-then-byte-lt-ZERO, then-byte-lt-ZERO-via-else-byte-lt-ZERO+then-byte-gt-NINE}

sliced : (start end : ℕ) (text : List ℕ) → start ≤ end → slice_range text start end ≡ slice start end text
sliced start end text h =
    let whole : start + (end - start) ≡ end = omega arith in
    sym (drop-take start (end - start) text) ∙ ap (λ (k : ℕ). slice start k text) whole

pub loop-byte-init : goal.loop-byte-init
loop-byte-init c =
    let a = c.args in
    record { below = lit< tt; spells = ap (spelt_of 0) (sliced a.start a.end a.text.now c.requires.few.0) }

pub returns-then-byte-lt-ZERO : goal.returns-then-byte-lt-ZERO
returns-then-byte-lt-ZERO c =
    let l = c.loop-byte in
    let word = slice_range c.args.text.now c.args.start c.args.end in
    let b = get_or word l.byte-index 0 in
    let other : (leb ZERO b && leb b NINE) ≡ false = elim c.then-byte-lt-ZERO.branch [
      | then-byte-lt-ZERO-via-then-byte-lt-ZERO w ↦ rw (lt-leb ZERO b w.if-byte-lt-ZERO.true)
      | then-byte-lt-ZERO-via-else-byte-lt-ZERO+then-byte-gt-NINE w ↦ rw (le-leb ZERO b w.if-byte-lt-ZERO.false, lt-leb b NINE w.if-byte-gt-NINE.true)
    ] in
    record { counted = sym (spelt_other l.value b _ other) ∙ ap (spelt_of l.value) (sym (drop-cons word l.byte-index 0 c.loop-byte-test.true)) ∙ l.invariant.spells }

pub loop-byte-preserved : goal.loop-byte-preserved
loop-byte-preserved c =
    let l = c.loop-byte in
    let word = slice_range c.args.text.now c.args.start c.args.end in
    let b = get_or word l.byte-index 0 in
    record {
      below = rw add-one (power_next l.value (b - ZERO) l.byte-index l.invariant.below (omega arith));
      spells = sym (spelt_digit l.value b _ c.if-byte-lt-ZERO.false c.if-byte-gt-NINE.false)
          ∙ ap (spelt_of l.value) (sym (rw add-one (drop-cons word l.byte-index 0 c.loop-byte-test.true))) ∙ l.invariant.spells;
    }

pub returns : goal.returns
returns c =
    let l = c.loop-byte in
    record { counted = sym (spelt_none l.value) ∙ ap (spelt_of l.value) (sym (drop_of_length-le _ c.loop-byte-test.false)) ∙ l.invariant.spells }
