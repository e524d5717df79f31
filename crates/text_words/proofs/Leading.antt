-- The laws of bytes that pass a test, which each scan of the text cites.
use Prim.Native.Nat.{ℕ, suc, ◌+◌, ◌<◌, ◌≤◌}
use mathlib.Core.Path.{◌≡◌, sym, ap, ◌∙◌}
use mathlib.Core.Bool.{Bool, true, false, cond}
use mathlib.Core.List.{List, [], ◌∷◌}
use native.Mathlib.Omega.{arith}
use native.Mathlib.Nat.{add-zero, add-suc, suc-add}
use native.Mathlib.Numerals.{add-one}
use lib.ListN.{length, drop, get_or, drop_of_length-le, length-drop}
use lib.Seq.{drop-cons}
use borrow.Author.Tests.{lt-ltb, le-ltb}
use Rattle.text_words.specs.declared.Word.TheVariants.{End}
use Rattle.text_words.specs.InnerPlaces.{leading, past, is_space, in_word, found_from, word_from, word_at}

-- No more bytes pass a test than there are.
pub leading_most : (test : ℕ → Bool) (xs : List ℕ) → leading test xs ≤ length xs
unfolding leading
leading_most test [] = omega arith
leading_most test (b ∷ bs) = go (test b) (leading_most test bs)
  where
    go : (t : Bool) → leading test bs ≤ length bs → cond t (suc (leading test bs)) 0 ≤ suc (length bs)
    go true h = omega arith
    go false h = omega arith

module _ (test : ℕ → Bool) (text : List ℕ) (i : ℕ) where
  -- a byte that passes: the place after it
  pub past_more : i < length text → test (get_or text i 0) ≡ true → past test text i ≡ past test text (i + 1)
  unfolding leading
  past_more h e =
      ap (λ (xs : List ℕ). i + leading test xs) (drop-cons text i 0 h)
      ∙ ap (λ (b : Bool). i + cond b (suc (leading test (drop (suc i) text))) 0) e
      ∙ add-suc i (leading test (drop (suc i) text)) ∙ sym (suc-add i (leading test (drop (suc i) text)))
      ∙ ap (λ (k : ℕ). past test text k) (sym (add-one i))

  -- a byte that does not: the place itself
  pub past_stop : i < length text → test (get_or text i 0) ≡ false → past test text i ≡ i
  unfolding leading
  past_stop h e =
      ap (λ (xs : List ℕ). i + leading test xs) (drop-cons text i 0 h)
      ∙ ap (λ (b : Bool). i + cond b (suc (leading test (drop (suc i) text))) 0) e ∙ add-zero i

  -- so too past the text's end
  pub past_end : length text ≤ i → past test text i ≡ i
  unfolding leading
  past_end h = ap (λ (xs : List ℕ). i + leading test xs) (drop_of_length-le text h) ∙ add-zero i

  -- where some pass, the place after them stands in the text
  pub past_within : i < past test text i → past test text i ≤ length text
  past_within h =
      let most = leading_most test (drop i text) in
      let left = length-drop i text in
      omega arith

-- A scan from a place, which has come to i: where the bytes that pass from i on end is where those from the place do.
pub record Passing (test : ℕ → Bool) (text : List ℕ) (at i : ℕ) : Type 0 where
  pub so_far : past test text i ≡ past test text at

module _ {test : ℕ → Bool} {text : List ℕ} {at i : ℕ} (passing : Passing test text at i) where
  pub passing_more : i < length text → test (get_or text i 0) ≡ true → Passing test text at (i + 1)
  passing_more h e = record { so_far = sym (past_more test text i h e) ∙ passing.so_far }

  pub passing_stop : i < length text → test (get_or text i 0) ≡ false → i ≡ past test text at
  passing_stop h e = sym (past_stop test text i h e) ∙ passing.so_far

  pub passing_end : length text ≤ i → i ≡ past test text at
  passing_end h = sym (past_end test text i h) ∙ passing.so_far

-- the word at a place where no space stands, from where its bytes end
pub from_found : (text : List ℕ) (start end : ℕ) → end ≡ past in_word text start → start < end
    → word_from text start (past in_word text start) ≡ found_from text start end
unfolding word_from
from_found text start end e h = rw (← e, lt-ltb start end h)

pub from_none : (text : List ℕ) (start end : ℕ) → end ≡ past in_word text start → end ≤ start → word_from text start (past in_word text start) ≡ End start
unfolding word_from
from_none text start end e h = rw (← e, le-ltb start end h)

-- the word at a place, from where its spaces end
pub from_word : (text : List ℕ) (at start : ℕ) → start ≡ past is_space text at → word_from text start (past in_word text start) ≡ word_at text at
unfolding word_at
from_word text at start s = rw s
