-- The laws of the numbers in a file's bytes, and of literals as four-byte numbers.
use Rattle.std.proofs.Common.{◌≡◌, ℕ, suc, ◌+◌, ◌-◌, ◌*◌, Bool, true, false, cond, ltb, List, get_or, ℤ, pos, negsuc, nat_abs, refl, ap, not-suc-le-zero, arith, w32, to_z, ltb-true}
use lib.Signed.{lt_z}
use mir.Val.{sel}
use Rattle.file_format.specs.Numbers.{number_at, literal_number, literal_of}

-- two bytes, and twice two
pub two_is : (file : List ℕ) (p : ℕ) → number_at 2 file p ≡ get_or file p 0 + 256 * get_or file (p + 1) 0
unfolding number_at
two_is file p =
    let q : suc p ≡ p + 1 = omega arith in
    let e : get_or file (suc p) 0 ≡ get_or file (p + 1) 0 = ap (λ (k : ℕ). get_or file k 0) q in
    omega arith

pub four_is : (file : List ℕ) (p : ℕ) → number_at 4 file p ≡ number_at 2 file p + 65536 * number_at 2 file (p + 2)
unfolding number_at
four_is file p =
    let q : suc (suc p) ≡ p + 2 = omega arith in
    let e : get_or file (suc (suc p)) 0 ≡ get_or file (p + 2) 0 = ap (λ (k : ℕ). get_or file k 0) q in
    let e' : get_or file (suc (suc (suc p))) 0 ≡ get_or file (suc (p + 2)) 0 = ap (λ (k : ℕ). get_or file (suc k) 0) q in
    omega arith

-- a negative literal by its complement, and one that is not negative
pub number_negative : (z : ℤ) (below : ℕ) → lt_z z (pos 0) ≡ true → below + 1 ≡ nat_abs z → 4294967295 - below ≡ literal_number z
unfolding literal_number
number_negative (pos v) below e is = absurd (not-suc-le-zero (ltb-true v 0 e))
number_negative (negsuc v) below e is = let q : below ≡ v = omega arith in ap (λ (k : ℕ). 4294967295 - k) q

pub number_positive : (z : ℤ) → lt_z z (pos 0) ≡ false → nat_abs z ≡ literal_number z
unfolding literal_number
number_positive (pos v) e = refl
number_positive (negsuc v) e = let no : ◌≡◌ {A = ℕ} 0 1 = cc in let no : ⊥ = omega arith in absurd no

-- the literal that a number is, as the machine reads its bits
pub literal_is : (number : ℕ) → to_z w32 number ≡ literal_of number
unfolding literal_of
literal_is number = go (ltb number 2147483648)
  where
    go : (b : Bool) → sel b (pos number) (negsuc (4294967296 - suc number)) ≡ cond b (pos number) (negsuc (4294967295 - number))
    go true = refl
    go false = let q : 4294967296 - suc number ≡ 4294967295 - number = omega arith in ap negsuc q
