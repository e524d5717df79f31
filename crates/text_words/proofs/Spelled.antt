-- What words say, plainly and by computing, is the same: a number (number_of_lem, spells), and the entries of a line (entries_read, read_entries).
use Rattle.std.specs.Prelude.{None, Some}
use Prim.Native.Nat.{ℕ, ◌+◌, ◌-◌, ◌*◌, ◌<◌, ◌≤◌}
use mathlib.Core.Path.{◌≡◌, refl, sym, ap, ◌∙◌, subst}
use mathlib.Core.Bool.{Bool, true, false, cond, ◌&&◌}
use mathlib.Core.List.{List, [], ◌∷◌, ◌++◌, append_assoc, append-nil}
use mathlib.Core.Logic.{◌≢◌}
use mathlib.Core.Option.{Option, none, some}
use native.Mathlib.Omega.{arith}
use borrow.Author.Tests.{le-leb, leb-true, ne_eqb, eqb-true, eqb-false}
use lib.Dec.{eqb, leb}
use lib.ListN.{length}
use lib.IntN.{ℤ, pos, neg_ℤ}
use Rattle.text_write.specs.Numbers.{Digits, no_digit, digit, decimal}
use Rattle.text_write.proofs.Decimal.{digits_most, decimal_is}
use Rattle.text_words.specs.InnerNumbers.{Number}
use Rattle.text_words.specs.Words.{MINUS, ZERO, Spells, VariableWord, variable_word, LiteralWord, unsigned_word, negated_word, Entries, closing, VariableWords}
use Rattle.text_words.specs.InnerNumbers.{NINE}
use Rattle.text_words.specs.Words.{LiteralWords}
use Rattle.text_words.specs.Words as plain
use Rattle.text_words.specs.InnerNumbers.{all_digits, spelt, is_number, number_of, Item, Closing, Plain, Negated, Other, plain_item, negated_item, item_of}
use Rattle.text_words.specs.InnerNumbers.{Kind, prepend, closed, entry, entries_of, variables, literals}
use Rattle.text_words.proofs.Numbers.{both}

-- Digits that are read on, from the left.
digits_on : (word more : List ℕ) (v : ℕ) → Digits word v → all_digits more ≡ true → Digits (word ++ more) (spelt v more)
unfolding all_digits spelt
digits_on word [] v d all = subst (λ (w : List ℕ). Digits w v) (sym (append-nil word)) d
digits_on word (b ∷ bs) v d all =
    let (one, rest) = both (leb ZERO b && leb b NINE) (all_digits bs) all in
    let (low, high) = both (leb ZERO b) (leb b NINE) one in
    let l = leb-true ZERO b low in
    let h = leb-true b NINE high in
    let is : ZERO + (b - ZERO) ≡ b = omega arith in
    let next = v * 10 + (b - ZERO) in
    subst (λ (w : List ℕ). Digits w (spelt next bs)) (append_assoc word (b ∷ []) bs)
    (digits_on (word ++ (b ∷ [])) bs next (subst (λ (c : ℕ). Digits (word ++ (c ∷ [])) next) is (digit d (omega arith))) rest)

-- One more digit at the end.
spelt_more : (before : ℕ) (xs : List ℕ) (d : ℕ) → spelt before (xs ++ (d ∷ [])) ≡ spelt before xs * 10 + (d - ZERO)
unfolding spelt
spelt_more before [] d = refl
spelt_more before (x ∷ xs) d = spelt_more (before * 10 + (x - ZERO)) xs d

all_more : (xs : List ℕ) (d : ℕ) → all_digits xs ≡ true → ZERO ≤ d → d ≤ NINE → all_digits (xs ++ (d ∷ [])) ≡ true
unfolding all_digits
all_more [] d e low high = rw (le-leb ZERO d low, le-leb d NINE high)
all_more (x ∷ xs) d e low high =
    elim (leb ZERO x && leb x NINE) as (λ t. (t && all_digits xs) ≡ true → (t && all_digits (xs ++ (d ∷ []))) ≡ true)
    [ true ↦ λ q. all_more xs d q low high | false ↦ λ q. q ] e

pub digits_read : {word : List ℕ} {v : ℕ} → Digits word v → (all_digits word ≡ true) × (spelt 0 word ≡ v)
unfolding all_digits spelt
digits_read no_digit = (refl, refl)
digits_read (digit {word} {v} {d} more small) =
    let (all, is) = digits_read more in
    let q = spelt_more 0 word (ZERO + d) in
    (all_more word (ZERO + d) all (omega arith) (omega arith), omega arith)

-- A number word, both ways.
pub number_of_lem : {word : List ℕ} {v : ℕ} → Spells word v → number_of word ≡ Some v
unfolding number_of is_number
number_of_lem {word} s = let (all, is) = digits_read s.digits in rw (le-leb 1 (length word) s.some, le-leb (length word) 5 s.few, all, is)

pub spells : {word : List ℕ} {v : ℕ} → number_of word ≡ Some v → Spells word v
unfolding number_of is_number
spells {word} {v} e = go (is_number word) refl e
  where
    go : (b : Bool) → is_number word ≡ b → cond b (Some (spelt 0 word)) None ≡ Some v → Spells word v
    go true is q =
        let (long, all) = both (leb 1 (length word) && leb (length word) 5) (all_digits word) is in
        let (low, high) = both (leb 1 (length word)) (leb (length word) 5) long in
        let same : spelt 0 word ≡ v = cc in
        record {
          digits = subst (Digits word) same (digits_on [] word 0 no_digit all);
          some = leb-true 1 (length word) low;
          few = leb-true (length word) 5 high;
        }
    go false is q = let no : ◌≡◌ {A = ℕ} 0 1 = cc in let no : ⊥ = omega arith in absurd no

-- One word spells one number.
pub spells_same : {word : List ℕ} {v v' : ℕ} → Spells word v → Spells word v' → v ≡ v'
spells_same a b = let p = number_of_lem a in let q = number_of_lem b in cc

-- The digits that are written for a number below 100,000 spell it.
pub decimal_spells : (v : ℕ) → v < 100000 → Spells (decimal v) v
decimal_spells v small = let u = decimal_is v in record { digits = u.digits; some = u.some; few = digits_most v 4 small }

-- What a word of a line says, by the item that it is.
abbrev ItemSays : List ℕ → Item → Type 0
ItemSays word Closing = Spells word 0
ItemSays word (Plain v) = Spells word v × (v ≢ 0)
ItemSays word (Negated v) = (rest : List ℕ) × (word ≡ MINUS ∷ rest) × Spells rest v × (v ≢ 0)
ItemSays word Other = Unit {0}

item_says : (word : List ℕ) → ItemSays word (item_of word)
unfolding item_of plain_item negated_item
item_says [] = tt
item_says (byte ∷ bytes) = go (eqb byte MINUS) refl
  where
    plainly : (number : Number) → number_of (byte ∷ bytes) ≡ number → ItemSays (byte ∷ bytes) (plain_item number)
    plainly (Some v) e = by_zero (eqb v 0) refl
      where
        by_zero : (b : Bool) → eqb v 0 ≡ b → ItemSays (byte ∷ bytes) (cond b Closing (Plain v))
        by_zero true z = subst (Spells (byte ∷ bytes)) (eqb-true v 0 z) (spells e)
        by_zero false z = (spells e, eqb-false v 0 z)
    plainly None e = tt

    minus : byte ≡ MINUS → (number : Number) → number_of bytes ≡ number → ItemSays (byte ∷ bytes) (negated_item number)
    minus is (Some v) e = by_zero (eqb v 0) refl
      where
        by_zero : (b : Bool) → eqb v 0 ≡ b → ItemSays (byte ∷ bytes) (cond b Other (Negated v))
        by_zero true z = tt
        by_zero false z = (bytes, ap (λ (c : ℕ). c ∷ bytes) is, spells e, eqb-false v 0 z)
    minus is None e = tt

    go : (b : Bool) → eqb byte MINUS ≡ b → ItemSays (byte ∷ bytes) (cond b (negated_item (number_of bytes)) (plain_item (number_of (byte ∷ bytes))))
    go true m = minus (eqb-true byte MINUS m) (number_of bytes) refl
    go false m = plainly (number_of (byte ∷ bytes)) refl

-- A number is no word with `-`.
digits_plain : (word : List ℕ) → all_digits word ≡ true → 1 ≤ length word → item_of word ≡ plain_item (number_of word)
unfolding item_of all_digits
digits_plain [] all h = let no : ⊥ = omega arith in absurd no
digits_plain (b ∷ bs) all h =
    let low = leb-true ZERO b (both (leb ZERO b) (leb b NINE) (both (leb ZERO b && leb b NINE) (all_digits bs) all).0).0 in
    rw (ne_eqb b MINUS (λ z. omega arith))

spelt_item : {word : List ℕ} {v : ℕ} → Spells word v → item_of word ≡ plain_item (Some v)
spelt_item {word} s = digits_plain word (digits_read s.digits).0 s.some ∙ ap plain_item (number_of_lem s)

-- A kind of line whose entries are what its words say: what a word says is taken, and a number is said, with `-` where it may carry one.
record Fits {A : Type 0} (kind : Kind A) (Says : List ℕ → A → Type 0) : Type 0 where
  taken : (word : List ℕ) (a : A) → Says word a → (more : List (List ℕ)) (later : Option (List A)) → entry kind (item_of word) more later ≡ prepend (some a) later
  said : (word : List ℕ) (v : ℕ) → Spells word v → v ≢ 0 → Says word (kind.positive v)
  signed : (word : List ℕ) (v : ℕ) (a : A) → Spells word v → v ≢ 0 → kind.negative v ≡ some a → Says (MINUS ∷ word) a

module _ {A : Type 0} (kind : Kind A) (Says : List ℕ → A → Type 0) (fits : Fits kind Says) where
  abbrev Row : List (List ℕ) → List A → Type 0
  Row = Entries Says (kind.positive 0)

  row_read : {ws : List (List ℕ)} {es : List A} → Row ws es → entries_of kind ws ≡ some es
  unfolding entries_of entry closed plain_item prepend
  row_read (closing s) = rw (spelt_item s)
  row_read (plain.entry {word} {more} {a} {later} s r) = fits.taken word a s more (entries_of kind more) ∙ ap (prepend (some a)) (row_read r)

  read_row : (ws : List (List ℕ)) (es : List A) → entries_of kind ws ≡ some es → Row ws es
  unfolding entries_of entry closed prepend
  read_row [] es e = let no : ◌≡◌ {A = ℕ} 0 1 = cc in let no : ⊥ = omega arith in absurd no
  read_row (word ∷ more) es e = go (λ later r. read_row more later r) (item_of word) (item_says word) e
    where
      last : (more : List (List ℕ)) → Spells word 0 → closed (kind.positive 0) more ≡ some es → Row (word ∷ more) es
      last [] s q = let is : kind.positive 0 ∷ [] ≡ es = cc in subst (Row (word ∷ [])) is (closing s)
      last (next ∷ ws) s q = let no : ◌≡◌ {A = ℕ} 0 1 = cc in let no : ⊥ = omega arith in absurd no

      then : ((later : List A) → entries_of kind more ≡ some later → Row more later) → (a : A) → Says word a → (later : Option (List A))
          → entries_of kind more ≡ later → prepend (some a) later ≡ some es → Row (word ∷ more) es
      then on a s none r q = let no : ◌≡◌ {A = ℕ} 0 1 = cc in let no : ⊥ = omega arith in absurd no
      then on a s (some later) r q = let is : a ∷ later ≡ es = cc in subst (Row (word ∷ more)) is (plain.entry s (on later r))

      minus : ((later : List A) → entries_of kind more ≡ some later → Row more later) → (v : ℕ) (a : Option A) → kind.negative v ≡ a
          → (rest : List ℕ) → word ≡ MINUS ∷ rest → Spells rest v → v ≢ 0 → prepend a (entries_of kind more) ≡ some es → Row (word ∷ more) es
      minus on v none n rest is s z q = let no : ◌≡◌ {A = ℕ} 0 1 = cc in let no : ⊥ = omega arith in absurd no
      minus on v (some a) n rest is s z q =
          then on a (subst (λ (w : List ℕ). Says w a) (sym is) (fits.signed rest v a s z n)) (entries_of kind more) refl q

      go : ((later : List A) → entries_of kind more ≡ some later → Row more later) → (item : Item) → ItemSays word item
          → entry kind item more (entries_of kind more) ≡ some es → Row (word ∷ more) es
      go on Closing s q = last more s q
      go on (Plain v) s q = then on (kind.positive v) (fits.said word v s.0 s.1) (entries_of kind more) refl q
      go on (Negated v) s q = minus on v (kind.negative v) refl s.0 s.1 s.2 s.3 q
      go on Other s q = let no : ◌≡◌ {A = ℕ} 0 1 = cc in let no : ⊥ = omega arith in absurd no

variables_fit : Fits variables VariableWord
unfolding entry plain_item
variables_fit =
    record {
      taken = taken;
      said = λ word v s z. variable_word s z;
      signed = λ word v a s z q. let no : ◌≡◌ {A = ℕ} 0 1 = cc in let no : ⊥ = omega arith in absurd no;
    }
  where
    taken : (word : List ℕ) (a : ℕ) → VariableWord word a → (more : List (List ℕ)) (later : Option (List ℕ))
        → entry variables (item_of word) more later ≡ prepend (some a) later
    taken word a (variable_word s z) more later = rw (spelt_item s, ne_eqb a 0 z)

literals_fit : Fits literals LiteralWord
unfolding entry plain_item negated_item item_of
literals_fit =
    record {
      taken = taken;
      said = λ word v s z. unsigned_word s z;
      signed = λ word v a s z q. let is : neg_ℤ (pos v) ≡ a = cc in subst (LiteralWord (MINUS ∷ word)) is (negated_word s z);
    }
  where
    taken : (word : List ℕ) (a : ℤ) → LiteralWord word a → (more : List (List ℕ)) (later : Option (List ℤ))
        → entry literals (item_of word) more later ≡ prepend (some a) later
    taken word a (unsigned_word {v = v} s z) more later = rw (spelt_item s, ne_eqb v 0 z)
    taken word a (negated_word {v = v} s z) more later = rw (number_of_lem s, ne_eqb v 0 z)

-- The words of a line that say variables, and literals, both ways.
pub variables_read : {ws : List (List ℕ)} {es : List ℕ} → VariableWords ws es → entries_of variables ws ≡ some es
variables_read = row_read variables VariableWord variables_fit

pub read_variables : {ws : List (List ℕ)} {es : List ℕ} → entries_of variables ws ≡ some es → VariableWords ws es
read_variables {ws} {es} = read_row variables VariableWord variables_fit ws es

pub literals_read : {ws : List (List ℕ)} {es : List ℤ} → LiteralWords ws es → entries_of literals ws ≡ some es
literals_read = row_read literals LiteralWord literals_fit

pub read_literals : {ws : List (List ℕ)} {es : List ℤ} → entries_of literals ws ≡ some es → LiteralWords ws es
read_literals {ws} {es} = read_row literals LiteralWord literals_fit ws es
