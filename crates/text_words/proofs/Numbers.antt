-- Numbers: digits one by one, and how large five of them can be.
use Rattle.std.specs.Prelude.{None, Some}
use Prim.Native.Nat.{ℕ, suc, ◌+◌, ◌-◌, ◌*◌, ◌^◌, ◌<◌, ◌≤◌}
use mathlib.Core.Path.{◌≡◌, refl, subst}
use mathlib.Core.Bool.{Bool, true, false, cond, ◌&&◌}
use mathlib.Core.List.{List, [], ◌∷◌}
use native.Mathlib.Omega.{arith}
use native.Mathlib.Nat.{pow-succ', pow-le-pow_right, add-zero}
use borrow.Author.Tests.{le-leb, lt-leb, leb-true}
use lib.Dec.{eqb, leb, lit<}
use lib.ListN.{length}
use Rattle.text_words.specs.InnerNumbers.{Number}
use Rattle.text_words.specs.InnerNumbers.{Item, Closing, Plain, Negated, Other, all_digits, spelt, is_number, number_of, plain_item, negated_item, item_of}
use Rattle.text_words.specs.Words.{MINUS, ZERO}
use Rattle.text_words.specs.InnerNumbers.{NINE}
use Rattle.text_words.specs.InnerPlaces.{spelt_of}

-- Digits by the next byte: a digit, and the number goes on; no digit, and they are none; no byte, and the number is the one so far.
module _ (value byte : ℕ) (more : List ℕ) where
  pub spelt_digit : ZERO ≤ byte → byte ≤ NINE → spelt_of value (byte ∷ more) ≡ spelt_of (value * 10 + (byte - ZERO)) more
  unfolding spelt_of all_digits spelt
  spelt_digit low high = rw (le-leb ZERO byte low, le-leb byte NINE high)

  pub spelt_other : (leb ZERO byte && leb byte NINE) ≡ false → spelt_of value (byte ∷ more) ≡ None
  unfolding spelt_of all_digits spelt
  spelt_other no_digit = rw no_digit

pub spelt_none : (value : ℕ) → spelt_of value [] ≡ Some value
unfolding spelt_of all_digits spelt
spelt_none value = refl

-- k digits are below the k-th power of 10, and so below 100,000 if they are at most five
pub power_next : (value digit k : ℕ) → value < 10 ^ k → digit ≤ 9 → value * 10 + digit < 10 ^ suc k
power_next value digit k h d = let p = pow-succ' 10 k in omega arith

pub power_most : {k : ℕ} → k ≤ 5 → 10 ^ k ≤ 100000
power_most h = pow-le-pow_right (lit< tt) h

-- a word as a number, by its length
module _ (word : List ℕ) where
  pub number_short : length word < 1 → number_of word ≡ None
  unfolding number_of is_number
  number_short h = rw (lt-leb 1 (length word) h)

  pub number_long : 5 < length word → number_of word ≡ None
  unfolding number_of is_number
  number_long h = rw (le-leb 1 (length word) (omega arith), lt-leb (length word) 5 h)

  pub number_spelt : 1 ≤ length word → length word ≤ 5 → number_of word ≡ spelt_of 0 word
  unfolding number_of is_number spelt_of
  number_spelt some most = rw (le-leb 1 (length word) some, le-leb (length word) 5 most)

-- a number word is below 100,000, and so is the number of an item
pub both : (a b : Bool) → (a && b) ≡ true → (a ≡ true) × (b ≡ true)
both true b e = (refl, e)
both false b e = let no : ◌≡◌ {A = ℕ} 0 1 = cc in let no : ⊥ = omega arith in absurd no

spelt_most : (before k : ℕ) (word : List ℕ) → before < 10 ^ k → all_digits word ≡ true → spelt before word < 10 ^ (k + length word)
unfolding all_digits spelt
spelt_most before k [] h d = rw (add-zero k) h
spelt_most before k (b ∷ bs) h d =
    let ds = both (leb ZERO b && leb b NINE) (all_digits bs) d in
    let high = leb-true b NINE (both (leb ZERO b) (leb b NINE) ds.0).1 in
    let sum : k + suc (length bs) ≡ suc k + length bs = omega arith in
    rw sum (spelt_most (before * 10 + (b - ZERO)) (suc k) bs (power_next before (b - ZERO) k h (omega arith)) ds.1)

number_size : Number → ℕ
number_size (Some v) = v
number_size None = 0

item_size : Item → ℕ
item_size Closing = 0
item_size (Plain v) = v
item_size (Negated v) = v
item_size Other = 0

number_most : (word : List ℕ) → number_size (number_of word) < 100000
unfolding number_of is_number number_size
number_most word = go (is_number word) refl
  where
    go : (t : Bool) → is_number word ≡ t → number_size (cond t (Some (spelt 0 word)) None) < 100000
    go true t-is =
        let parts = both (leb 1 (length word) && leb (length word) 5) (all_digits word) t-is in
        let most = leb-true (length word) 5 (both (leb 1 (length word)) (leb (length word) 5) parts.0).1 in
        let power = power_most {k = 0 + length word} (omega arith) in
        let bound = spelt_most 0 0 word (lit< tt) parts.1 in
        omega arith
    go false t-is = omega arith

plain_size : (number : Number) → item_size (plain_item number) ≤ number_size number
unfolding plain_item item_size number_size
plain_size (Some v) = go (eqb v 0)
  where
    go : (t : Bool) → item_size (cond t Closing (Plain v)) ≤ v
    go true = omega arith
    go false = omega arith
plain_size None = omega arith

negated_size : (number : Number) → item_size (negated_item number) ≤ number_size number
unfolding negated_item item_size number_size
negated_size (Some v) = go (eqb v 0)
  where
    go : (t : Bool) → item_size (cond t Other (Negated v)) ≤ v
    go true = omega arith
    go false = omega arith
negated_size None = omega arith

item_size_lem : (word : List ℕ) → item_size (item_of word) < 100000
unfolding item_of item_size
item_size_lem [] = omega arith
item_size_lem (b ∷ bs) = go (eqb b MINUS)
  where
    go : (t : Bool) → item_size (cond t (negated_item (number_of bs)) (plain_item (number_of (b ∷ bs)))) < 100000
    go true = omega (arith, negated_size (number_of bs), number_most bs)
    go false = omega (arith, plain_size (number_of (b ∷ bs)), number_most (b ∷ bs))

pub plain_most : (word : List ℕ) (v : ℕ) → item_of word ≡ Plain v → v < 100000
unfolding item_size
plain_most word v e = subst (λ (i : Item). item_size i < 100000) e (item_size_lem word)

pub negated_most : (word : List ℕ) (v : ℕ) → item_of word ≡ Negated v → v < 100000
unfolding item_size
negated_most word v e = subst (λ (i : Item). item_size i < 100000) e (item_size_lem word)
