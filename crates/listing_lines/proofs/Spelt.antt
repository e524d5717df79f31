-- The laws of the listing's words and numbers: how they are written, and how long they are at most; and where a line stands.
use Prim.Native.Nat.{ℕ, suc, ◌*◌, ◌≤◌, ◌<◌}
use mathlib.Core.Path.{◌≡◌, refl, ◌∙◌}
use mathlib.Core.Bool.{Bool}
use mathlib.Core.List.{List, [], ◌∷◌, ◌++◌}
use native.Mathlib.Nat.{zero-add}
use native.Mathlib.Omega.{arith}
use lib.IntN.{pos}
use lib.ListN.{length, get_or, length-append}
use Rattle.terms.proofs.Overwritten.{stored_overwritten}
use Rattle.text_write.specs.Numbers.{decimal}
use Rattle.text_write.specs.Written.{literal_word}
use Rattle.text_write.proofs.Stores.{word_most, Script}
use Rattle.listing_lines.specs.Lines.{numbers, LineIn}
use Rattle.listing_lines.specs.Inner.{line_bytes, Stored}

-- a number of at most five digits
pub number_most : (v : ℕ) → v < 100000 → length (decimal v) ≤ 6
unfolding literal_word
number_most v small = word_most (pos v) small

-- a word, byte by byte
abbrev pub word_script : Script ℕ
word_script =
    record {
      default = 0;
      text_from = λ first word. word;
      bytes_of = λ first byte. byte ∷ [];
      next_of = λ first byte. first;
      split = λ first byte more. refl;
      empty = λ first. refl;
    }

-- the numbers of a list, each after a space
pub numbers_split : (b : Bool) (v : ℕ) (more : List ℕ) → numbers (v ∷ more) ≡ (32 ∷ decimal v) ++ numbers more
unfolding numbers
numbers_split b v more = refl

pub numbers_none : (b : Bool) → numbers [] ≡ []
unfolding numbers
numbers_none b = refl

abbrev pub numbers_script : Script ℕ
numbers_script =
    record {
      default = 0;
      text_from = λ first list. numbers list;
      bytes_of = λ first v. 32 ∷ decimal v;
      next_of = λ first v. first;
      split = numbers_split;
      empty = numbers_none;
    }

-- numbers of at most five digits, each with its space
pub numbers_most : (list : List ℕ) → ((i : ℕ) → i < length list → get_or list i 0 < 100000) → length (numbers list) ≤ 7 * length list
unfolding numbers
numbers_most [] small = omega arith
numbers_most (v ∷ vs) small =
    let rest = numbers_most vs (λ i l. small (suc i) (omega arith)) in
    let most = number_most v (small 0 (omega arith)) in
    let parts = length-append (decimal v) (numbers vs) in
    omega arith

-- What is stored from the start of a buffer that has room for it stands in front there.
pub line_front : (line : List ℕ) {before after : List ℕ} {end : ℕ} → line_bytes ≤ length before → Stored line_bytes line before after 0 end
    → LineIn line before after end
line_front line {before} room s =
    let size = s.wrote.end in
    let near = s.near in
    let fits : length line ≤ length before = omega arith in
    (line, refl, size ∙ zero-add (length line), s.wrote.stored ∙ stored_overwritten line before fits)
