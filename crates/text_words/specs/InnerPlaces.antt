-- What the functions on words and on lines of entries promise, for a text and a place in it: where the next word stands, by computing, and what
-- it says of the line in the grammar's words.
use Rattle.std.specs.Prelude.{ℕ, suc, ◌+◌, ◌<◌, ◌≤◌, ◌≡◌, Bool, false, not, cond, ◌&&◌, List, [], ◌∷◌, eqb, ltb, length, drop, get_or, None, Some, Option}
use Rattle.std.proofs.Math.Option.{none, some}
use Rattle.std.proofs.lemmas.List.Edits.{sets}
use Rattle.std.proofs.Math.Seq.{slice}
use Rattle.text_words.specs.declared.Word.{Word}
use Rattle.text_words.specs.declared.Word.TheVariants.{Found, End}
use Rattle.text_words.specs.InnerNumbers.{Number}
use Rattle.text_words.specs.declared.Entry.{Entry}
use Rattle.text_words.specs.declared.Entry.TheVariants.{Unfit, Close, Take, Negate}
use Rattle.text_words.specs.declared.Row.{Row}
use Rattle.text_words.specs.declared.Counted.{Counted}
use Rattle.text_words.specs.InnerNumbers.{Item, Closing, Plain, Negated, Other, all_digits, spelt, number_of, plain_item}
use Rattle.text_words.specs.Words.{LF, SPACE, MINUS, pieces, words}
use Rattle.text_words.specs.InnerNumbers.{negated_item, item_of, Kind, entries_of}

-- How many bytes that pass a test stand in front: spaces, the bytes of a word, the bytes of a line.
unfoldable pub leading : (ℕ → Bool) → List ℕ → ℕ
leading test [] = 0
leading test (byte ∷ bytes) = cond (test byte) (suc (leading test bytes)) 0

abbrev pub is_space : ℕ → Bool
is_space byte = eqb byte SPACE

abbrev pub in_word : ℕ → Bool
in_word byte = not (eqb byte SPACE) && not (eqb byte LF)

abbrev pub in_line : ℕ → Bool
in_line byte = not (eqb byte LF)

-- The place after those that stand at a place.
abbrev pub past : (ℕ → Bool) → List ℕ → ℕ → ℕ
past test text at = at + leading test (drop at text)

-- Whether a word carries `-`, the word without it, and the item that it is by both.
unfoldable pub signed : List ℕ → Bool
signed [] = false
signed (byte ∷ bytes) = eqb byte MINUS

unfoldable pub bare : List ℕ → List ℕ
bare [] = []
bare (byte ∷ bytes) = cond (eqb byte MINUS) bytes (byte ∷ bytes)

unfoldable pub signed_item : Bool → Number → Item
signed_item negative number = cond negative (negated_item number) (plain_item number)

-- The word that stands next in a line, from its first byte up to its end, with its number and its sign, or the line's end if there is none.
abbrev pub found_from : List ℕ → ℕ → ℕ → Word
found_from text start end = Found start end (number_of (bare (slice start end text))) (signed (slice start end text))

unfoldable pub word_from : List ℕ → ℕ → ℕ → Word
word_from text start end = cond (ltb start end) (found_from text start end) (End start)

unfoldable pub word_at : List ℕ → ℕ → Word
word_at text at = let start = past is_space text at in word_from text start (past in_word text start)

-- The place after a `-`, if one stands at a place.
pub data SignIs (text : List ℕ) (at from : ℕ) : Type 0 where
  minus : at < length text → get_or text at 0 ≡ MINUS → from ≡ at + 1 → SignIs text at from
  unsigned : (get_or text at 0 ≡ MINUS → ⊥) → from ≡ at → SignIs text at from

-- A number stands at a place, with nothing of its word behind it; nothing is said where none was told.
pub record Numeral (text : List ℕ) (from value end : ℕ) : Type 0 where
  pub is : number_of (slice from end text) ≡ Some value
  pub stop : end ≡ past in_word text from
  pub some : from < end
  pub within : end ≤ length text

abbrev pub NumeralIs : List ℕ → ℕ → Option Counted → Type 0
NumeralIs text from None = Unit {0}
NumeralIs text from (Some counted) = Numeral text from counted.value counted.next

-- Digits up to a place are a number where the byte that stands there ends their word.
abbrev pub StopIs : ℕ → ℕ → ℕ → ℕ → Option Counted → Type 0
StopIs byte value from end None = Unit {0}
StopIs byte value from end (Some counted) = (counted.value ≡ value) × (counted.next ≡ end) × (from < end) × (in_word byte ≡ false)

-- Digits as the number that they spell after the number `before`.
unfoldable pub spelt_of : ℕ → List ℕ → Number
spelt_of before word = cond (all_digits word) (Some (spelt before word)) None

-- The line that stands at a place, up to its LF or the text's end, and what follows its LF, cut at LF: nothing if it has none.
unfoldable pub front : List (List ℕ) → List ℕ
front [] = []
front (piece ∷ more) = piece

unfoldable pub later : List (List ℕ) → List (List ℕ)
later [] = []
later (piece ∷ more) = more

abbrev pub line_at : List ℕ → ℕ → List ℕ
line_at text at = front (pieces LF (drop at text))

abbrev pub after_at : List ℕ → ℕ → List (List ℕ)
after_at text at = later (pieces LF (drop at text))

abbrev pub words_at : List ℕ → ℕ → List (List ℕ)
words_at text at = words (line_at text at)

-- The line at a place ends in LF, and the next one stands at `next`.
pub record Passed (text : List ℕ) (at next : ℕ) : Type 0 where
  pub after : after_at text at ≡ pieces LF (drop next text)
  pub place : next ≡ past in_line text at + 1
  pub within : next ≤ length text

-- The next word of the line at a place is this item, and the line goes on at `next`.
pub record Taken (item : Item) (text : List ℕ) (at next : ℕ) : Type 0 where
  pub word : List ℕ
  pub first : words_at text at ≡ word ∷ words_at text next
  pub is : item_of word ≡ item
  pub after : after_at text at ≡ after_at text next
  pub line : past in_line text at ≡ past in_line text next
  pub on : at < next
  pub within : next ≤ length text

-- The line at a place has words left, or no LF.
pub data Open (text : List ℕ) (at : ℕ) : Type 0 where
  words_left : {word : List ℕ} {more : List (List ℕ)} → words_at text at ≡ word ∷ more → Open text at
  no_feed : after_at text at ≡ [] → Open text at

-- Whether a line ends at a place, with nothing but spaces before its LF.
abbrev pub EndedIs : List ℕ → ℕ → Option ℕ → Type 0
EndedIs text at None = Open text at
EndedIs text at (Some next) = (words_at text at ≡ []) × Passed text at next

abbrev pub CloseIs : List ℕ → ℕ → Entry → Type 0
CloseIs text at Unfit = Open text at
CloseIs text at (Close next) = (words_at text at ≡ []) × Passed text at next
CloseIs text at (Take value next) = ⊥
CloseIs text at (Negate value next) = ⊥

-- What a word that is an item says, where the line goes on after it.
abbrev pub ItemIs : Item → List ℕ → ℕ → Entry → Type 0
ItemIs Closing text next r = CloseIs text next r
ItemIs (Plain value) text next r = r ≡ Take value next
ItemIs (Negated value) text next r = r ≡ Negate value next
ItemIs Other text next r = r ≡ Unfit

-- The words of the line at a place are no entries: no word is left, the next is no number, a 0 is not the last, or no LF follows.
pub data Unread (text : List ℕ) (at : ℕ) : Type 0 where
  wordless : words_at text at ≡ [] → Unread text at
  strange : {word : List ℕ} {more : List (List ℕ)} → words_at text at ≡ word ∷ more → item_of word ≡ Other → Unread text at
  early : {word next : List ℕ} {more : List (List ℕ)} → words_at text at ≡ word ∷ next ∷ more → item_of word ≡ Closing → Unread text at
  endless : after_at text at ≡ [] → Unread text at

-- The next entry of a line: a number, and where the line goes on, or the closing 0, and where the next line stands.
pub record Closes (text : List ℕ) (at next : ℕ) : Type 0 where
  pub word : List ℕ
  pub last : words_at text at ≡ word ∷ []
  pub is : item_of word ≡ Closing
  pub passed : Passed text at next
  pub on : at < next

abbrev pub EntryIs : List ℕ → ℕ → Entry → Type 0
EntryIs text at Unfit = Unread text at
EntryIs text at (Close next) = Closes text at next
EntryIs text at (Take value next) = Taken (Plain value) text at next
EntryIs text at (Negate value next) = Taken (Negated value) text at next

-- What a line of entries leaves in a table that is filled from `from` on: nothing is said if it is no such line, and nothing of rows that the
-- table lacks.
pub record WholeRow {A : Type 0} (kind : Kind A) (text : List ℕ) (at from : ℕ) (before after : List A) (next count : ℕ) : Type 0 where
  pub entries : List A
  pub read : entries_of kind (words_at text at) ≡ some entries
  pub passed : Passed text at next
  pub counted : count ≡ from + length entries
  pub stored : after ≡ sets before from entries
  pub few : count ≤ next

pub data NoRow {A : Type 0} (kind : Kind A) (text : List ℕ) (at : ℕ) : Type 0 where
  unread : entries_of kind (words_at text at) ≡ none → NoRow kind text at
  endless_row : after_at text at ≡ [] → NoRow kind text at

abbrev pub RowIs : {A : Type 0} → Kind A → List ℕ → ℕ → ℕ → List A → List A → Option Row → Type 0
RowIs kind text at from before after None = NoRow kind text at
RowIs kind text at from before after (Some row) = WholeRow kind text at from before after row.next row.count
