-- The bytes of a file are those of what is read there: numbers, and records that hold numbers.
use Prim.Native.Nat.{ℕ, zero, suc, ◌+◌, ◌*◌, ◌-◌, ◌/◌, ◌%◌, ◌<◌, ◌≤◌}
use mathlib.Core.Path.{◌≡◌, refl, sym, ap, ap₂, ◌∙◌}
use mathlib.Core.Bool.{Bool, true, false, cond}
use mathlib.Core.List.{List, ◌∷◌, ◌++◌, append_assoc, map}
use mathlib.Core.Logic.{by_cases}
use native.Mathlib.Decide.{dec_lt}
use native.Mathlib.Nat.{mul-suc}
use native.Mathlib.Omega.{arith}
use lib.Dec.{ltb}
use lib.IntN.{pos, negsuc}
use lib.ListN.{length, get_or, drop, get_or-eq_default}
use lib.Seq.{drop-cons}
use Rattle.file_format.specs.Numbers.{number_at, numbers_at, number_bytes, bytes_of, literal_number, literal_of}
use Rattle.file_format.specs.Layout.{record_bytes}
use Rattle.file_format.specs.Places.{size_at, kind_at, next_at, HoldsNumbers}
use Rattle.file_format.proofs.Changed.{Bytes}
use Rattle.file_format.proofs.Lengths.{bytes_length}

-- the literal of a four-byte number has that number
literal_same : (number : ℕ) → number < 4294967296 → literal_number (literal_of number) ≡ number
unfolding literal_number literal_of
literal_same number fits = go (ltb number 2147483648)
  where
    go : (b : Bool) → literal_number (cond b (pos number) (negsuc (4294967295 - number))) ≡ number
    go true = refl
    go false = omega arith

module _ (file : List ℕ) (bytes : Bytes file) where
  a_byte : (p : ℕ) → get_or file p 0 < 256
  a_byte p = by_cases (dec_lt p (length file)) (λ within. bytes p within) (λ past. let z = get_or-eq_default file 0 {n = p} (omega arith) in omega arith)

  pub two_fits : (p : ℕ) → number_at 2 file p < 65536
  unfolding number_at
  two_fits p = let a = a_byte p in let b = a_byte (suc p) in omega arith

  four_fits : (p : ℕ) → number_at 4 file p < 4294967296
  unfolding number_at
  four_fits p =
      let a = a_byte p in
      let b = a_byte (suc p) in
      let c = a_byte (suc (suc p)) in
      let d = a_byte (suc (suc (suc p))) in
      omega arith

  -- so many literals, each of four bytes, have the numbers that are there
  pub literals_same : (p many : ℕ) → map literal_number (map literal_of (numbers_at 4 file p many)) ≡ numbers_at 4 file p many
  unfolding numbers_at
  literals_same p zero = refl
  literals_same p (suc many) = ap₂ (λ (x : ℕ) (xs : List ℕ). x ∷ xs) (literal_same (number_at 4 file p) (four_fits p)) (literals_same (p + 4) many)

  -- a number stands in its bytes, and numbers one after the other
  number_stands : (width p : ℕ) → p + width ≤ length file → drop p file ≡ number_bytes width (number_at width file p) ++ drop (p + width) file
  unfolding number_bytes number_at
  number_stands zero p within = let q : p ≡ p + 0 = omega arith in ap (λ (k : ℕ). drop k file) q
  number_stands (suc width) p within =
      let low = get_or file p 0 in
      let rest = number_at width file (suc p) in
      let small = a_byte p in
      let first : low ≡ (low + 256 * rest) % 256 = omega arith in
      let others : rest ≡ (low + 256 * rest) / 256 = omega arith in
      let next : suc p + width ≡ p + suc width = omega arith in
      drop-cons file p 0 (omega arith)
      ∙ ap₂ (λ (x : ℕ) (xs : List ℕ). x ∷ xs) first
      (number_stands width (suc p) (omega arith) ∙ ap₂ (λ (k : ℕ) (at : ℕ). number_bytes width k ++ drop at file) others next)

  numbers_stand : (width many p : ℕ) → p + width * many ≤ length file
      → drop p file ≡ bytes_of width (numbers_at width file p many) ++ drop (p + width * many) file
  unfolding bytes_of numbers_at
  numbers_stand width zero p within = let q : p ≡ p + width * 0 = omega arith in ap (λ (k : ℕ). drop k file) q
  numbers_stand width (suc many) p within =
      let m = mul-suc width many in
      let one = number_bytes width (number_at width file p) in
      let others = bytes_of width (numbers_at width file (p + width) many) in
      let next : p + width + width * many ≡ p + width * suc many = omega arith in
      number_stands width p (omega arith)
      ∙ ap (λ (xs : List ℕ). one ++ xs) (numbers_stand width many (p + width) (omega arith) ∙ ap (λ (k : ℕ). others ++ drop k file) next)
      ∙ sym (append_assoc one others (drop (p + width * suc many) file))

  -- a record with just these numbers, which the end of the file does not cut, and what comes behind it
  pub record_stands : (width p : ℕ) (numbers : List ℕ) → HoldsNumbers width file p numbers → next_at file p ≤ length file
      → drop p file ≡ record_bytes (kind_at file p) (bytes_of width numbers) ++ drop (next_at file p) file
  unfolding record_bytes size_at kind_at next_at
  record_stands width p numbers holds within =
      let payload = bytes_of width numbers in
      let back = drop (next_at file p) file in
      let size = number_bytes 4 (size_at file p) in
      let kind = number_bytes 2 (kind_at file p) in
      let is = holds.size in
      let two : p + 4 + 2 ≡ p + 6 = omega arith in
      let end : p + 6 + width * length numbers ≡ next_at file p = omega arith in
      let long : size_at file p ≡ length payload = is ∙ sym (bytes_length width numbers) in
      let inner = numbers_stand width (length numbers) (p + 6) (omega arith)
      ∙ ap₂ (λ (xs : List ℕ) (k : ℕ). bytes_of width xs ++ drop k file) holds.values end in
      number_stands 4 p (omega arith)
      ∙ ap (λ (xs : List ℕ). size ++ xs)
      (number_stands 2 (p + 4) (omega arith) ∙ ap (λ (xs : List ℕ). kind ++ xs) (ap (λ (k : ℕ). drop k file) two ∙ inner)
      ∙ sym (append_assoc kind payload back))
      ∙ sym (append_assoc size (kind ++ payload) back)
      ∙ ap (λ (k : ℕ). (number_bytes 4 k ++ (kind ++ payload)) ++ back) long
