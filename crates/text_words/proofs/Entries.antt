-- The laws of entries: what the next word of a line says of the line as a row of entries.
use Rattle.std.specs.Prelude.{None}
use Prim.Native.Nat.{ℕ, ◌+◌}
use mathlib.Core.Path.{◌≡◌, refl, sym, ap, ◌∙◌, subst}
use mathlib.Core.Bool.{Bool, true, false, cond, ◌&&◌}
use mathlib.Core.List.{List, [], ◌∷◌}
use native.Mathlib.Omega.{arith}
use borrow.Author.Tests.{eqb-true}
use lib.Dec.{eqb, leb}
use lib.ListN.{length}
use lib.Seq.{slice}
use Rattle.text_words.specs.declared.Word.{Word}
use Rattle.text_words.specs.declared.Word.TheVariants.{Found}
use Rattle.text_words.specs.InnerNumbers.{Number}
use Rattle.text_words.specs.declared.Entry.{Entry}
use Rattle.text_words.specs.declared.Entry.TheVariants.{Unfit, Close, Take, Negate}
use Rattle.text_words.specs.InnerNumbers.{Item, Closing, Plain, Negated, Other, all_digits, is_number, number_of, plain_item, negated_item, item_of}
use Rattle.text_words.specs.Words.{MINUS}
use Rattle.text_words.specs.InnerPlaces.{signed, bare, signed_item, word_at, Passed, Taken, words_left, no_feed, CloseIs, ItemIs, early, endless, strange, EntryIs}
use Rattle.text_words.proofs.Lines.{FoundIs, found_parts}

-- a word as an item, by its sign and its number
item_signed : (word : List ℕ) → item_of word ≡ signed_item (signed word) (number_of (bare word))
unfolding item_of signed_item signed bare number_of is_number plain_item
item_signed [] = refl
item_signed (byte ∷ bytes) = go (eqb byte MINUS)
  where
    go : (t : Bool)
        → cond t (negated_item (number_of bytes)) (plain_item (number_of (byte ∷ bytes)))
        ≡ cond t (negated_item (number_of (cond t bytes (byte ∷ bytes)))) (plain_item (number_of (cond t bytes (byte ∷ bytes))))
    go true = refl
    go false = refl

pub found_item : (text : List ℕ) (at : ℕ) {s e : ℕ} {number : Number} {negative : Bool} {r : Word} → r ≡ word_at text at → r ≡ Found s e number negative
    → item_of (slice s e text) ≡ signed_item negative number
found_item text at {s} {e} {negative = negative} w q =
    let p = found_parts text at w q in
    let word = slice s e text in
    item_signed word ∙ ap (λ (b : Bool). signed_item b (number_of (bare word))) p.1 ∙ ap (signed_item negative) p.0

-- a word with no `-` is a number as a whole, and one with `-` is none
and-false : (b : Bool) → (b && false) ≡ false
and-false true = refl
and-false false = refl

pub plain_number : (word : List ℕ) → signed word ≡ false → number_of (bare word) ≡ number_of word
unfolding signed bare
plain_number [] e = refl
plain_number (byte ∷ bytes) e = rw e

pub signed_number : (word : List ℕ) → signed word ≡ true → number_of word ≡ None
unfolding signed number_of is_number all_digits
signed_number [] e = let no : ◌≡◌ {A = ℕ} 0 1 = cc in let no : ⊥ = omega arith in absurd no
signed_number (byte ∷ bytes) e =
    rw (eqb-true byte MINUS e, and-false (leb 1 (length (MINUS ∷ bytes)) && leb (length (MINUS ∷ bytes)) 5))

-- what is no number is no item, with `-` or without
pub not_item : (negative : Bool) → signed_item negative None ≡ Other
unfolding signed_item plain_item negated_item
not_item true = refl
not_item false = refl

module _ {text : List ℕ} {at start end : ℕ} (found : FoundIs text at start end) where
  -- the word found is an item, and the line goes on after it
  taken : (item : Item) → item_of (slice start end text) ≡ item → Taken item text at end
  taken item is =
      record {
        word = slice start end text;
        first = found.first;
        is = is;
        after = found.after;
        line = found.line;
        on = let f = found.from in let s = found.some in omega arith;
        within = found.within;
      }

  -- what is known of the line after it is known of the line
  passed_on : (next : ℕ) → Passed text end next → Passed text at next
  passed_on next p = record { after = found.after ∙ p.after; place = p.place ∙ sym (ap (λ (n : ℕ). n + 1) found.line); within = p.within }

  -- the word found is the closing 0
  closes : item_of (slice start end text) ≡ Closing → (r : Entry) → CloseIs text end r → EntryIs text at r
  closes is Unfit (words_left left) = early (found.first ∙ ap (λ (ws : List (List ℕ)). slice start end text ∷ ws) left) is
  closes is Unfit (no_feed none) = endless (found.after ∙ none)
  closes is (Close next) c =
      record {
        word = slice start end text;
        last = found.first ∙ ap (λ (ws : List (List ℕ)). slice start end text ∷ ws) c.0;
        is = is;
        passed = passed_on next c.1;
        on = let p = c.1.place in let f = found.from in let s = found.some in omega arith;
      }
  closes is (Take value next) c = absurd c
  closes is (Negate value next) c = absurd c

  -- the entry that it is, by its item
  pub found_entry : (item : Item) → item_of (slice start end text) ≡ item → (r : Entry) → ItemIs item text end r → EntryIs text at r
  found_entry Closing is r c = closes is r c
  found_entry (Plain value) is r q = subst (EntryIs text at) (sym q) (taken (Plain value) is)
  found_entry (Negated value) is r q = subst (EntryIs text at) (sym q) (taken (Negated value) is)
  found_entry Other is r q = subst (EntryIs text at) (sym q) (strange found.first is)
