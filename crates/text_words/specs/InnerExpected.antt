-- What is found where a word or a number is looked for, for a line that stands at a place of a text.
use Rattle.std.specs.Prelude.{ℕ, ◌<◌, ◌≤◌, ◌≡◌, List, ◌∷◌, length, None, Some, Option}
use Rattle.text_words.specs.declared.Counted.{Counted}
use Rattle.text_words.specs.InnerNumbers.{number_of}
use Rattle.text_words.specs.InnerPlaces.{past, in_line, after_at, words_at}

-- The next word of a line is this one, and the line goes on at `next`.
pub record Goes (word : List ℕ) (text : List ℕ) (at next : ℕ) : Type 0 where
  pub first : words_at text at ≡ word ∷ words_at text next
  pub after : after_at text at ≡ after_at text next
  pub line : past in_line text at ≡ past in_line text next
  pub on : at < next
  pub within : next ≤ length text

-- Whether the next word is this one.
abbrev pub SpeltIs : List ℕ → List ℕ → ℕ → Option ℕ → Type 0
SpeltIs word text at None = (more : List (List ℕ)) → words_at text at ≡ word ∷ more → ⊥
SpeltIs word text at (Some next) = Goes word text at next

-- Whether the next word is a number.
pub record Counts (text : List ℕ) (at value next : ℕ) : Type 0 where
  pub word : List ℕ
  pub goes : Goes word text at next
  pub is : number_of word ≡ Some value

abbrev pub CountedIs : List ℕ → ℕ → Option Counted → Type 0
CountedIs text at None = (word : List ℕ) (more : List (List ℕ)) (value : ℕ) → words_at text at ≡ word ∷ more → number_of word ≡ Some value → ⊥
CountedIs text at (Some counted) = Counts text at counted.value counted.next
