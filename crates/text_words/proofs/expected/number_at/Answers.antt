-- What the reader found is the next word of the line (found_of), with its sign and the number of the rest (found_parts): a number is one with no `-`.
use Prim.Native.Nat.{ℕ}
use mathlib.Core.Path.{◌≡◌, refl, sym, ap, ◌∙◌}
use native.Mathlib.Omega.{arith}
use lib.Seq.{slice}
use Rattle.text_words.specs.InnerNumbers.{number_of}
use Rattle.text_words.proofs.Lines.{found_of, found_parts, end_of}
use Rattle.text_words.proofs.Entries.{plain_number, signed_number}
use Rattle.text_words.proofs.Spelling.{spelt_end, goes, only}
use Rattle.text_words.proofs.expected.number_at.Goals as goal

pub returns-in_default : goal.returns-in_default
returns-in_default c =
    let a = c.args in
    record { looked = λ word more value q is. spelt_end (end_of a.text.now a.at c.word_in.ensures.found c.in_default.is) word more q }

pub returns-then-negative : goal.returns-then-negative
returns-then-negative c =
    let a = c.args in
    let found = found_of a.text.now a.at c.word_in.ensures.found c.in-Found.is in
    let parts = found_parts a.text.now a.at c.word_in.ensures.found c.in-Found.is in
    record {
      looked = λ word more value q is.
          let no_number = signed_number _ (parts.1 ∙ c.if-negative.true) in
          let whole = ap number_of (only found word more q) in
          let no : ◌≡◌ {A = ℕ} 0 1 = cc in
          omega arith;
    }

pub returns-in_err-value : goal.returns-in_err-value
returns-in_err-value c =
    let a = c.args in
    let found = found_of a.text.now a.at c.word_in.ensures.found c.in-Found.is in
    let parts = found_parts a.text.now a.at c.word_in.ensures.found c.in-Found.is in
    rw c.from_residual.ensures
    (record {
      looked = λ word more value q is.
          let plain = plain_number _ (parts.1 ∙ c.if-negative.false) in
          let none = parts.0 ∙ c.in_err-value.was in
          let whole = ap number_of (only found word more q) in
          let no : ◌≡◌ {A = ℕ} 0 1 = cc in
          omega arith;
    })

pub returns : goal.returns
returns c =
    let a = c.args in
    let w = c.in-Found in
    let found = found_of a.text.now a.at c.word_in.ensures.found w.is in
    let parts = found_parts a.text.now a.at c.word_in.ensures.found w.is in
    let word = slice w.start w.end a.text.now in
    let plain = plain_number word (parts.1 ∙ c.if-negative.false) in
    record { looked = record { word = word; goes = goes found word refl; is = sym plain ∙ parts.0 ∙ c.in_ok-value.was } }
