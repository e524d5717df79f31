-- The laws of a row: the entries of a line, one by one, as they are stored in a table.
use Rattle.std.specs.Prelude.{Option, None, Some}
use Prim.Native.Nat.{ℕ, ◌+◌, ◌≤◌}
use mathlib.Core.Path.{◌≡◌, refl, sym, ap, ◌∙◌}
use mathlib.Core.List.{List, [], ◌∷◌, ◌++◌}
use mathlib.Core.Option.{Option as Maybe, none, some}
use native.Mathlib.Omega.{arith}
use native.Mathlib.Nat.{add-zero}
use native.Mathlib.Numerals.{add-one}
use lib.ListN.{length, set, length-append}
use lib.Seq.{sets, length-sets}
use lib.IntN.{ℤ}
use mir.Syntax.{w32}
use mir.Val.{SFits, to_z, of_z}
use mir.Facts.{to_z-of_z}
use Rattle.terms.proofs.Common.{sets_append}
use Rattle.text_words.specs.declared.Row.{Row}
use Rattle.text_words.specs.InnerNumbers.{variables, Item, Kind, prepend, closed, entry, entries_of}
use Rattle.text_words.specs.InnerPlaces.{past, in_line, words_at, after_at, Taken, Unread, wordless, strange, early, endless, Closes, WholeRow, NoRow, unread}
use Rattle.text_words.specs.InnerPlaces.{endless_row, RowIs}
use Rattle.text_lines.specs.InnerSteps.{BlockIs}

module _ {A : Type 0} where
  -- entries in front of others, if those are entries
  unfoldable pub after : List A → Maybe (List A) → Maybe (List A)
  after [] later = later
  after (x ∷ xs) later = prepend (some x) (after xs later)

  after_one : (xs : List A) (x : A) (later : Maybe (List A)) → after xs (prepend (some x) later) ≡ after (xs ++ (x ∷ [])) later
  unfolding after
  after_one [] x later = refl
  after_one (y ∷ xs) x later = ap (prepend (some y)) (after_one xs x later)

  after_some : (xs ys : List A) → after xs (some ys) ≡ some (xs ++ ys)
  unfolding after prepend
  after_some [] ys = refl
  after_some (x ∷ xs) ys = rw (after_some xs ys)

  after_none : (xs : List A) → after xs none ≡ none
  unfolding after prepend
  after_none [] = refl
  after_none (x ∷ xs) = rw (after_none xs)

  -- The entries of the line at a place up to another, which stand in the table from a row on.
  pub record Partly (kind : Kind A) (text : List ℕ) (at from : ℕ) (before : List A) (i row : ℕ) (table : List A) : Type 0 where
    pub taken : List A
    pub read : entries_of kind (words_at text at) ≡ after taken (entries_of kind (words_at text i))
    pub same : after_at text at ≡ after_at text i
    pub line : past in_line text at ≡ past in_line text i
    pub counted : row ≡ from + length taken
    pub stored : table ≡ sets before from taken
    pub few : row ≤ i

  pub partly_none : (kind : Kind A) (text : List ℕ) (at from : ℕ) (before : List A) → from ≤ at → Partly kind text at from before at from before
  unfolding after
  partly_none kind text at from before h = record { taken = []; read = refl; same = refl; line = refl; counted = sym (add-zero from); stored = refl; few = h }

  module _ {kind : Kind A} {text : List ℕ} {at from : ℕ} {before : List A} {i row : ℕ} {table : List A}
      (partly : Partly kind text at from before i row table) where
    abbrev done : List A
    done = partly.taken

    pub partly_length : length table ≡ length before
    partly_length = ap length partly.stored ∙ length-sets before from done

    -- one more store
    store : (x : A) → set table row x ≡ sets before from (done ++ (x ∷ []))
    store x =
        ap (λ (k : ℕ). set table k x) partly.counted ∙ ap (λ (t : List A). set t (from + length done) x) partly.stored
        ∙ sym (sets_append before from done (x ∷ []))

    count : (x : A) → row + 1 ≡ from + length (done ++ (x ∷ []))
    count x = let l = length-append done (x ∷ []) in let k = partly.counted in omega arith

    module _ {item : Item} {next : ℕ} (takes : Taken item text i next) where
      item_read : entries_of kind (words_at text i) ≡ entry kind item (words_at text next) (entries_of kind (words_at text next))
      unfolding entries_of
      item_read = ap (entries_of kind) takes.first ∙ ap (λ (it : Item). entry kind it (words_at text next) (entries_of kind (words_at text next))) takes.is

      -- an entry is taken and stored
      pub partly_more : (x : A) → ((more : List (List ℕ)) (later : Maybe (List A)) → entry kind item more later ≡ prepend (some x) later)
          → (table' : List A) → table' ≡ set table row x
          → Partly kind text at from before next (row + 1) table'
      partly_more x is table' put =
          record {
            taken = done ++ (x ∷ []);
            read =
                partly.read ∙ ap (after done) (item_read ∙ is (words_at text next) (entries_of kind (words_at text next)))
                ∙ after_one done x (entries_of kind (words_at text next));
            same = partly.same ∙ takes.after;
            line = partly.line ∙ takes.line;
            counted = count x;
            stored = put ∙ store x;
            few = let f = partly.few in let o = takes.on in omega arith;
          }

      -- a number that may not stand there
      pub partly_barred : ((more : List (List ℕ)) (later : Maybe (List A)) → entry kind item more later ≡ none) → NoRow kind text at
      partly_barred is = unread (partly.read ∙ ap (after done) (item_read ∙ is (words_at text next) (entries_of kind (words_at text next))) ∙ after_none done)

    -- the closing 0
    pub partly_whole : {next : ℕ} → Closes text i next → (table' : List A) → table' ≡ set table row (kind.positive 0)
        → WholeRow kind text at from before table' next (row + 1)
    unfolding entries_of entry closed
    partly_whole c table' put =
        record {
          entries = done ++ (kind.positive 0 ∷ []);
          read =
              partly.read ∙ ap (after done) (ap (entries_of kind) c.last ∙ ap (λ (it : Item). entry kind it [] none) c.is)
              ∙ after_some done (kind.positive 0 ∷ []);
          passed =
              record {
                after = partly.same ∙ c.passed.after;
                place = c.passed.place ∙ sym (ap (λ (n : ℕ). n + 1) partly.line);
                within = c.passed.within;
              };
          counted = count (kind.positive 0);
          stored = put ∙ store (kind.positive 0);
          few = let f = partly.few in let o = c.on in omega arith;
        }

    -- no entry
    pub partly_broken : Unread text i → NoRow kind text at
    unfolding entries_of entry closed
    partly_broken (wordless e) = unread (partly.read ∙ ap (after done) (ap (entries_of kind) e) ∙ after_none done)
    partly_broken (strange {word} {more} e is) =
        unread (partly.read ∙ ap (after done) (ap (entries_of kind) e ∙ ap (λ (it : Item). entry kind it more (entries_of kind more)) is) ∙ after_none done)
    partly_broken (early {word} {next} {more} e is) =
        unread
        (partly.read ∙ ap (after done) (ap (entries_of kind) e ∙ ap (λ (it : Item). entry kind it (next ∷ more) (entries_of kind (next ∷ more))) is)
        ∙ after_none done)
    partly_broken (endless e) = endless_row (partly.same ∙ e)

-- A literal is stored as its bits, and read back from them.
pub literal_put : (table : List ℤ) (row : ℕ) (z : ℤ) {x : ℤ} → SFits w32 z → z ≡ x → set table row (to_z w32 (of_z w32 z)) ≡ set table row x
literal_put table row z fits is = ap (λ (v : ℤ). set table row v) (to_z-of_z {w = w32} {z = z} fits ∙ is)

-- A mark in front of the variables.
pub block_row : (mark : ℕ) (text : List ℕ) (at from : ℕ) (before mid after' : List ℕ) (r : Option Row) → mid ≡ set before from mark
    → RowIs variables text at (from + 1) mid after' r → BlockIs mark text at from before after' r
block_row mark text at from before mid after' None put row = row
block_row mark text at from before mid after' (Some whole) put row =
    let counted = row.counted in
    record {
      entries = row.entries;
      read = row.read;
      passed = row.passed;
      counted = omega arith;
      stored =
          row.stored ∙ ap (λ (t : List ℕ). sets t (from + 1) row.entries) put
          ∙ ap (λ (k : ℕ). sets (set before from mark) k row.entries) (add-one from);
      few = row.few;
    }
