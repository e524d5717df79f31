-- The laws of a number that is read while its word's end is found.
use Rattle.std.specs.Prelude.{None, Some, Option}
use Prim.Native.Nat.{ℕ, suc, ◌+◌, ◌-◌, ◌*◌, ◌^◌, ◌<◌, ◌≤◌}
use mathlib.Core.Path.{◌≡◌, sym, ap, ◌∙◌}
use mathlib.Core.Bool.{Bool, true}
use mathlib.Core.List.{List, ◌∷◌}
use native.Mathlib.Omega.{arith}
use native.Mathlib.Numerals.{add-one}
use borrow.Author.Tests.{eq-eqb, ne_eqb, lt-ltb, le-ltb}
use lib.Dec.{ltb}
use lib.ListN.{length, get_or}
use lib.Seq.{slice, slice-cons, slice_empty, length-slice}
use Rattle.text_words.specs.declared.Word.TheVariants.{Found}
use Rattle.text_words.specs.InnerNumbers.{Number}
use Rattle.text_words.specs.declared.Counted.{Counted}
use Rattle.text_words.specs.Words.{LF, SPACE, MINUS, ZERO}
use Rattle.text_words.specs.InnerNumbers.{NINE, number_of}
use Rattle.text_words.specs.InnerPlaces.{past, in_word, signed, bare, word_from, spelt_of, SignIs, minus, unsigned, Numeral, NumeralIs, StopIs}
use Rattle.text_words.proofs.Leading.{past_more, past_stop, from_found}
use Rattle.text_words.proofs.Numbers.{spelt_digit, spelt_none, number_spelt, power_next}

-- The bytes from a place up to another are digits, at most five, and spell a number: whatever the word's end is, the digits before it go on from there.
pub record Digits (text : List ℕ) (from i value : ℕ) : Type 0 where
  pub on : from ≤ i
  pub few : i ≤ from + 5
  pub below : value < 10 ^ (i - from)
  pub spells : (end : ℕ) → i ≤ end → end ≤ length text → spelt_of value (slice i end text) ≡ spelt_of 0 (slice from end text)
  pub stops : past in_word text i ≡ past in_word text from

module _ {text : List ℕ} {from i value : ℕ} (digits : Digits text from i value) (inside : i < length text) where
  abbrev b : ℕ
  b = get_or text i 0

  -- a digit more
  pub digits_more : ZERO ≤ b → b ≤ NINE → i - from ≤ 4 → Digits text from (i + 1) (value * 10 + (b - ZERO))
  digits_more low high few =
      let on = digits.on in
      let next : i + 1 - from ≡ suc (i - from) = omega arith in
      record {
        on = omega arith;
        few = omega arith;
        below = rw next (power_next value (b - ZERO) (i - from) digits.below (omega arith));
        spells = λ end h w. sym (rw (slice-cons i end text 0 (omega arith) w, add-one) (spelt_digit value b _ low high)) ∙ digits.spells end (omega arith) w;
        stops = sym (past_more in_word text i inside (rw (ne_eqb b SPACE (λ e. omega arith), ne_eqb b LF (λ e. omega arith)))) ∙ digits.stops;
      }

  -- the byte that stands there ends the word, or nothing is told
  pub digits_stop : (r : Option Counted) → StopIs b value from i r → NumeralIs text from r
  digits_stop None s = tt
  digits_stop (Some counted) s =
      let on = digits.on in
      let few = digits.few in
      let some = s.2 in
      let size = length-slice from i text (omega arith) in
      let whole : Numeral text from value i =
      record {
        is =
            number_spelt (slice from i text) (omega arith) (omega arith) ∙ sym (digits.spells i (omega arith) (omega arith))
            ∙ rw (slice_empty i text) (spelt_none value);
        stop = sym (past_stop in_word text i inside s.3) ∙ digits.stops;
        some = some;
        within = omega arith;
      } in
      rw (s.0, s.1) whole

-- a word by the place after its sign
module _ (text : List ℕ) (start from end : ℕ) (sign : SignIs text start from) where
  pub sign_on : start < end → from ≤ end
  sign_on h = go sign
    where
      go : SignIs text start from → from ≤ end
      go (minus inside m f) = omega arith
      go (unsigned m f) = omega arith

  signs : start < end → end ≤ length text → (bare (slice start end text) ≡ slice from end text) × (signed (slice start end text) ≡ ltb start from)
  unfolding bare signed
  signs h e = go sign
    where
      cons : slice start end text ≡ get_or text start 0 ∷ slice (suc start) end text
      cons = slice-cons start end text 0 h e

      go : SignIs text start from → (bare (slice start end text) ≡ slice from end text) × (signed (slice start end text) ≡ ltb start from)
      go (minus inside m f) =
          (rw (cons, eq-eqb (get_or text start 0) MINUS m, f, add-one), rw (cons, eq-eqb (get_or text start 0) MINUS m, lt-ltb start from (omega arith)))
      go (unsigned m f) =
          let whole : bare (slice start end text) ≡ get_or text start 0 ∷ slice (suc start) end text = rw (cons, ne_eqb (get_or text start 0) MINUS m) in
          (whole ∙ sym cons ∙ ap (λ (k : ℕ). slice k end text) (sym f), rw (cons, ne_eqb (get_or text start 0) MINUS m, le-ltb start from (omega arith)))

  pub signed_word : (number : Number) → end ≡ past in_word text start → start < end → end ≤ length text → number ≡ number_of (slice from end text)
      → Found start end number (ltb start from) ≡ word_from text start (past in_word text start)
  signed_word number stop h e is =
      let s = signs h e in
      let word = slice start end text in
      ap (λ (n : Number). Found start end n (ltb start from)) (is ∙ ap number_of (sym s.0))
      ∙ ap (λ (b : Bool). Found start end (number_of (bare word)) b) (sym s.1)
      ∙ sym (from_found text start end stop h)

  -- a number that was read with its end
  pub numeral_word : (value : ℕ) → Numeral text from value end → Found start end (Some value) (ltb start from) ≡ word_from text start (past in_word text start)
  numeral_word value n = go sign
    where
      go : SignIs text start from → Found start end (Some value) (ltb start from) ≡ word_from text start (past in_word text start)
      go (minus inside m f) =
          let some = n.some in
          let letter : in_word (get_or text start 0) ≡ true = rw m in
          signed_word (Some value) (n.stop ∙ ap (λ (k : ℕ). past in_word text k) f ∙ sym (past_more in_word text start inside letter)) (omega arith)
          n.within (sym n.is)
      go (unsigned m f) =
          let some = n.some in
          signed_word (Some value) (n.stop ∙ ap (λ (k : ℕ). past in_word text k) f) (omega arith) n.within (sym n.is)
