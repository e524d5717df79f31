-- Numbers and records that stand somewhere in a file are read back from there.
use Rattle.std.proofs.Common.{◌≡◌, ℕ, zero, suc, ◌+◌, ◌*◌, ◌/◌, ◌%◌, ◌<◌, ◌≤◌, List, [], ◌∷◌, ◌++◌, length, get_or, sym, refl, ap, ◌∙◌, ap₂, append_assoc, arith, length-append}
use lib.Seq.{get_or_at}
use Rattle.file_format.specs.Numbers.{number_at, numbers_at, number_bytes, bytes_of}
use Rattle.file_format.specs.Layout.{record_bytes}
use Rattle.file_format.specs.Places.{size_at, kind_at, next_at}
use Rattle.file_format.proofs.Lengths.{number_length}

-- what so many bytes hold is below this
unfoldable pub limit : ℕ → ℕ
limit zero = 1
limit (suc width) = 256 * limit width

-- each number of a list fits so many bytes
abbrev pub Fit : ℕ → List ℕ → Type 0
Fit width [] = Unit {0}
Fit width (number ∷ more) = (number < limit width) × Fit width more

-- a number is read where its bytes stand
pub number_at_lem : (width number : ℕ) {file : List ℕ} (front back : List ℕ) (p : ℕ) → file ≡ front ++ (number_bytes width number ++ back)
    → length front ≡ p → number < limit width → number_at width file p ≡ number
unfolding number_at number_bytes limit
number_at_lem zero number front back p is at fits = omega arith
number_at_lem (suc width) number {file} front back p is at fits =
    let rest = number_bytes width (number / 256) ++ back in
    let first : get_or file p 0 ≡ number % 256 = ap (λ (xs : List ℕ). get_or xs p 0) is ∙ get_or_at front (number % 256) rest 0 p at in
    let long = length-append front (number % 256 ∷ []) in
    let others =
    number_at_lem width (number / 256) (front ++ (number % 256 ∷ [])) back (suc p) (is ∙ sym (append_assoc front (number % 256 ∷ []) rest))
    (omega arith) (omega arith) in
    omega arith

pub numbers_at_lem : (width : ℕ) (numbers : List ℕ) {file : List ℕ} (front back : List ℕ) (p : ℕ)
    → file ≡ front ++ (bytes_of width numbers ++ back) → length front ≡ p → Fit width numbers
    → numbers_at width file p (length numbers) ≡ numbers
unfolding numbers_at bytes_of
numbers_at_lem width [] front back p is at fit = refl
numbers_at_lem width (number ∷ more) front back p is at fit =
    let here = number_bytes width number in
    let split = is ∙ ap (λ (xs : List ℕ). front ++ xs) (append_assoc here (bytes_of width more) back) in
    let long = length-append front here in
    let one = number_length width number in
    ap₂ (λ (x : ℕ) (xs : List ℕ). x ∷ xs) (number_at_lem width number front (bytes_of width more ++ back) p split at fit.0)
    (numbers_at_lem width more (front ++ here) back (p + width) (split ∙ sym (append_assoc front here (bytes_of width more ++ back))) (omega arith) fit.1)

-- A record of a kind with a payload stands at p: what is read of it, and where its payload is.
pub record StandsAt (file : List ℕ) (p kind : ℕ) (payload : List ℕ) : Type 0 where
  pub front : List ℕ
  pub back : List ℕ
  pub is : file ≡ front ++ (payload ++ back)
  pub at : length front ≡ p + 6
  pub size : size_at file p ≡ length payload
  pub kind_is : kind_at file p ≡ kind
  pub next : next_at file p ≡ p + (6 + length payload)
  pub within : p + (6 + length payload) ≤ length file

pub record_at : (kind : ℕ) (payload : List ℕ) {file : List ℕ} (front back : List ℕ) (p : ℕ)
    → file ≡ front ++ (record_bytes kind payload ++ back) → length front ≡ p → length payload < 4294967296 → kind < 65536
    → StandsAt file p kind payload
unfolding record_bytes size_at kind_at next_at limit
record_at kind payload {file} front back p is at short fits =
    let size = number_bytes 4 (length payload) in
    let name = number_bytes 2 kind in
    let inner : front ++ (record_bytes kind payload ++ back) ≡ front ++ (size ++ ((name ++ payload) ++ back)) =
    ap (λ (xs : List ℕ). front ++ xs) (append_assoc size (name ++ payload) back) in
    let first = is ∙ inner in
    let second = first ∙ sym (append_assoc front size ((name ++ payload) ++ back))
    ∙ ap (λ (xs : List ℕ). (front ++ size) ++ xs) (append_assoc name payload back) in
    let third = second ∙ sym (append_assoc (front ++ size) name (payload ++ back)) in
    let l = length-append front size in
    let s = number_length 4 (length payload) in
    let m = length-append (front ++ size) name in
    let k = number_length 2 kind in
    let all = ap length third ∙ length-append ((front ++ size) ++ name) (payload ++ back) in
    let rest = length-append payload back in
    let read = number_at_lem 4 (length payload) front ((name ++ payload) ++ back) p first at short in
    record {
      front = (front ++ size) ++ name;
      back = back;
      is = third;
      at = omega arith;
      size = read;
      kind_is = number_at_lem 2 kind (front ++ size) (payload ++ back) (p + 4) second (omega arith) fits;
      next = omega arith;
      within = omega arith;
    }
