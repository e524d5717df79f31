-- The laws of decimal digits: one by one, how many there are at most, and that they are the one unpadded word of their number (decimal_is, decimal_only).
use Prim.Native.Nat.{ℕ, zero, suc, ◌+◌, ◌*◌, ◌^◌, ◌/◌, ◌%◌, ◌<◌, ◌≤◌}
use mathlib.Core.Path.{◌≡◌, refl, sym, ap, ap₂, ◌∙◌, subst₂}
use mathlib.Core.Bool.{true, false}
use mathlib.Core.List.{List, [], ◌∷◌, ◌++◌}
use mathlib.Core.Logic.{◌≢◌}
use native.Mathlib.Omega.{arith}
use native.Mathlib.Nat.{pow-succ', one-le-pow}
use borrow.Author.Tests.{lt-ltb, le-ltb, ltb-true, ltb-false}
use lib.Dec.{ltb}
use lib.ListN.{length, get_or, length-append}
use Rattle.text_write.specs.Texts.{ZERO}
use Rattle.text_write.specs.Numbers.{Digits, no_digit, digit, Unpadded, digits_of, decimal}

-- Enough room for digits is enough.
digits_small : (most value : ℕ) → value < 10 → digits_of (suc most) value ≡ (ZERO + value) ∷ []
unfolding digits_of
digits_small most value h = rw (lt-ltb value 10 h, digits_of)

digits_large : (most value : ℕ) → 10 ≤ value → digits_of (suc most) value ≡ digits_of most (value / 10) ++ ((ZERO + value % 10) ∷ [])
unfolding digits_of
digits_large most value h = rw (le-ltb value 10 h, digits_of)

digits_same : (most most' value : ℕ) → value < most → value < most' → digits_of most value ≡ digits_of most' value
digits_same zero most' value h h' = let no : ⊥ = omega arith in absurd no
digits_same (suc most) zero value h h' = let no : ⊥ = omega arith in absurd no
digits_same (suc most) (suc most') value h h' =
    elim (ltb value 10) as (λ t. ltb value 10 ≡ t → digits_of (suc most) value ≡ digits_of (suc most') value) [
      | true ↦ λ t. digits_small most value (ltb-true value 10 t) ∙ sym (digits_small most' value (ltb-true value 10 t))
      | false ↦ λ t.
          let large = ltb-false value 10 t in
          digits_large most value large
          ∙ ap (λ (xs : List ℕ). xs ++ ((ZERO + value % 10) ∷ [])) (digits_same most most' (value / 10) (omega arith) (omega arith))
          ∙ sym (digits_large most' value large)
    ] refl

-- A number below 10 is one digit; any other has those of its tenth, and one more.
pub decimal_small : (value : ℕ) → value < 10 → decimal value ≡ (ZERO + value) ∷ []
unfolding decimal
decimal_small value h = digits_small value value h

pub decimal_large : (value : ℕ) → 10 ≤ value → decimal value ≡ decimal (value / 10) ++ ((ZERO + value % 10) ∷ [])
unfolding decimal
decimal_large value h =
    digits_large value value h
    ∙ ap (λ (xs : List ℕ). xs ++ ((ZERO + value % 10) ∷ [])) (digits_same value (suc (value / 10)) (value / 10) (omega arith) (omega arith))

-- A number below the k-th power of 10 has at most k digits.
pub digits_most : (value k : ℕ) → value < 10 ^ suc k → length (decimal value) ≤ suc k
digits_most value zero h = rw (decimal_small value h) (omega arith)
digits_most value (suc k) h =
    elim (ltb value 10) as (λ t. ltb value 10 ≡ t → length (decimal value) ≤ suc (suc k)) [
      | true ↦ λ t. rw (decimal_small value (ltb-true value 10 t)) (omega arith)
      | false ↦ λ t.
          let large = ltb-false value 10 t in
          let power = pow-succ' 10 (suc k) in
          let tenth = digits_most (value / 10) k (omega arith) in
          let long = length-append (decimal (value / 10)) ((ZERO + value % 10) ∷ []) in
          rw (decimal_large value large) (omega arith)
    ] refl

-- One that is the k-th power of 10 or more has more than k digits, and so suc k of them below the next power.
digits_least : (value k : ℕ) → 10 ^ k ≤ value → suc k ≤ length (decimal value)
digits_least value zero h =
    elim (ltb value 10) as (λ t. ltb value 10 ≡ t → 1 ≤ length (decimal value)) [
      | true ↦ λ t. rw (decimal_small value (ltb-true value 10 t)) (omega arith)
      | false ↦ λ t. rw (decimal_large value (ltb-false value 10 t)) (omega (arith, length-append (decimal (value / 10)) ((ZERO + value % 10) ∷ [])))
    ] refl
digits_least value (suc k) h =
    let power = pow-succ' 10 k in
    let some = one-le-pow k 10 (omega arith) in
    let tenth = digits_least (value / 10) k (omega arith) in
    let long = length-append (decimal (value / 10)) ((ZERO + value % 10) ∷ []) in
    rw (decimal_large value (omega arith)) (omega arith)

pub digits_are : (value k : ℕ) → 10 ^ k ≤ value → value < 10 ^ suc k → suc k ≡ length (decimal value)
digits_are value k least most = omega (arith, digits_least value k least, digits_most value k most)

-- A digit behind others leaves the first one.
first_kept : (word : List ℕ) (d : ℕ) → 1 ≤ length word → get_or (word ++ (d ∷ [])) 0 0 ≡ get_or word 0 0
first_kept [] d some = let no : ⊥ = omega arith in absurd no
first_kept (x ∷ word) d some = refl

-- What the digits of a number are, besides: those of a number that is not 0 do not begin with the digit 0.
record Proper (v : ℕ) : Type 0 where
  digits : Digits (decimal v) v
  some : 1 ≤ length (decimal v)
  first : 1 ≤ v → get_or (decimal v) 0 0 ≢ ZERO

proper_small : (v : ℕ) → v < 10 → Proper v
proper_small v small =
    let is = decimal_small v small in
    let value : 0 * 10 + v ≡ v = omega arith in
    record {
      digits = subst₂ Digits (sym is) value (digit no_digit small);
      some = rw is (omega arith);
      first = λ positive z. let q : ZERO + v ≡ ZERO = sym (ap (λ (xs : List ℕ). get_or xs 0 0) is) ∙ z in omega arith;
    }

proper_large : (v : ℕ) → 10 ≤ v → Proper (v / 10) → Proper v
proper_large v large tenth =
    let is = decimal_large v large in
    let long = length-append (decimal (v / 10)) ((ZERO + v % 10) ∷ []) in
    let some = tenth.some in
    let value : v / 10 * 10 + v % 10 ≡ v = omega arith in
    let same : get_or (decimal v) 0 0 ≡ get_or (decimal (v / 10)) 0 0 =
    ap (λ (xs : List ℕ). get_or xs 0 0) is ∙ first_kept (decimal (v / 10)) (ZERO + v % 10) some in
    record {
      digits = subst₂ Digits (sym is) value (digit tenth.digits (omega arith));
      some = rw is (omega arith);
      first = λ positive z. tenth.first (omega arith) (sym same ∙ z);
    }

proper : (most v : ℕ) → v < most → Proper v
proper zero v h = let no : ⊥ = omega arith in absurd no
proper (suc most) v h =
    elim (ltb v 10) as (λ t. ltb v 10 ≡ t → Proper v) [
      | true ↦ λ t. proper_small v (ltb-true v 10 t)
      | false ↦ λ t. let large = ltb-false v 10 t in proper_large v large (proper most (v / 10) (omega arith))
    ] refl

-- The digits that are written for a number are an unpadded word of it.
pub decimal_is : (v : ℕ) → Unpadded (decimal v) v
decimal_is v = let p = proper (suc v) v (omega arith) in record { digits = p.digits; some = p.some; unpadded = λ two. p.first (positive two) }
  where
    positive : 2 ≤ length (decimal v) → 1 ≤ v
    positive two =
        elim (ltb v 10) as (λ t. ltb v 10 ≡ t → 1 ≤ v) [
          | true ↦ λ t. let one = ap length (decimal_small v (ltb-true v 10 t)) in let no : ⊥ = omega arith in absurd no
          | false ↦ λ t. let large = ltb-false v 10 t in omega arith
        ] refl

-- Digits of which the first is not 0 spell a number that is not; no digit spells 0.
leading : {word : List ℕ} {v : ℕ} → Digits word v → 1 ≤ length word → get_or word 0 0 ≢ ZERO → 1 ≤ v
leading no_digit some first = let no : ⊥ = omega arith in absurd no
leading (digit {word = word} {v = v} {d = d} more small) some first = go (λ l g. leading more l g) word refl
  where
    go : (1 ≤ length word → get_or word 0 0 ≢ ZERO → 1 ≤ v) → (w : List ℕ) → word ≡ w → 1 ≤ v * 10 + d
    go on [] e =
        let alone : ZERO + d ≢ ZERO = λ z. first (ap (λ (x : List ℕ). get_or (x ++ ((ZERO + d) ∷ [])) 0 0) e ∙ z) in
        let positive : d ≢ 0 = λ z. alone (omega arith) in
        omega arith
    go on (x ∷ xs) e =
        let size = ap length e in
        let l : 1 ≤ length word = omega arith in
        let p = on l (λ z. first (first_kept word (ZERO + d) l ∙ z)) in
        omega arith

none_spelt : {word : List ℕ} {v : ℕ} → Digits word v → word ≡ [] → v ≡ 0
none_spelt no_digit e = refl
none_spelt (digit {word = word} {d = d} more small) e =
    let size = ap length e in let long = length-append word ((ZERO + d) ∷ []) in let no : ⊥ = omega arith in absurd no

only : {word : List ℕ} {v : ℕ} → Digits word v → 1 ≤ length word → (2 ≤ length word → get_or word 0 0 ≢ ZERO) → word ≡ decimal v
only no_digit some first = let no : ⊥ = omega arith in absurd no
only (digit {word = word} {v = v} {d = d} more small) some first = go (λ l g. only more l g) word refl
  where
    go : (1 ≤ length word → (2 ≤ length word → get_or word 0 0 ≢ ZERO) → word ≡ decimal v) → (w : List ℕ) → word ≡ w
        → word ++ ((ZERO + d) ∷ []) ≡ decimal (v * 10 + d)
    go on [] e =
        let z = none_spelt more e in
        let q : ZERO + d ≡ ZERO + (v * 10 + d) = omega arith in
        ap (λ (w : List ℕ). w ++ ((ZERO + d) ∷ [])) e ∙ ap (λ (x : ℕ). x ∷ []) q ∙ sym (decimal_small (v * 10 + d) (omega arith))
    go on (x ∷ xs) e =
        let size = ap length e in
        let l : 1 ≤ length word = omega arith in
        let long = length-append word ((ZERO + d) ∷ []) in
        let g : get_or word 0 0 ≢ ZERO = λ z. first (omega arith) (first_kept word (ZERO + d) l ∙ z) in
        let p = leading more l g in
        let tenth : v ≡ (v * 10 + d) / 10 = omega arith in
        let last : ZERO + d ≡ ZERO + (v * 10 + d) % 10 = omega arith in
        ap₂ (λ (w : List ℕ) (x : ℕ). w ++ (x ∷ [])) (on l (λ two. g) ∙ ap decimal tenth) last ∙ sym (decimal_large (v * 10 + d) (omega arith))

-- They are the only one.
pub decimal_only : {word : List ℕ} {v : ℕ} → Unpadded word v → word ≡ decimal v
decimal_only u = only u.digits u.some u.unpadded
