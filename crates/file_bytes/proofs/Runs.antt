-- The laws of bytes that are stored one run after another: those of a number, and of numbers as far as a loop has come.
use Rattle.std.proofs.Common.{◌≡◌, ℕ, zero, suc, ◌+◌, ◌/◌, ◌<◌, ◌≤◌, List, [], ◌∷◌, ◌++◌, length, get_or, take, refl, sym, ap, ◌∙◌, append-nil, arith}
use Rattle.std.proofs.lemmas.List.{take_more}
use Rattle.std.specs.Int.{to_le_bytes, w32}
use Rattle.text_write.specs.InnerBytes.{Wrote}
use Rattle.text_write.proofs.Stores.{wrote_none, wrote_more}
use Rattle.file_format.specs.Numbers.{number_bytes, bytes_of}
use Rattle.file_format.proofs.Lengths.{bytes_append}
use Rattle.file_bytes.proofs.Composed.{wrote_as}

-- the bytes of a number are its lowest ones
pub number_low : (width number : ℕ) → width ≤ 4 → take width (to_le_bytes w32 number) ≡ number_bytes width number
unfolding number_bytes
number_low zero number h = refl
number_low (suc zero) number h = refl
number_low (suc (suc zero)) number h = refl
number_low (suc (suc (suc zero))) number h = let third : number / 65536 ≡ number / 256 / 256 = omega arith in rw third refl
number_low (suc (suc (suc (suc zero)))) number h =
    let third : number / 65536 ≡ number / 256 / 256 = omega arith in
    let fourth : number / 16777216 ≡ number / 256 / 256 / 256 = omega arith in
    rw (third, fourth) refl
number_low (suc (suc (suc (suc (suc width))))) number h = let no : ⊥ = omega arith in absurd no

module _ (width : ℕ) (numbers : List ℕ) where
  pub numbers_none : (out : List ℕ) (at : ℕ) → Wrote (bytes_of width []) out out at at
  unfolding bytes_of
  numbers_none out at = wrote_none out at

  -- one number more behind those that are stored
  pub numbers_more : (i : ℕ) {before now after : List ℕ} {at next last : ℕ} → Wrote (bytes_of width (take i numbers)) before now at next
      → i < length numbers → Wrote (number_bytes width (get_or numbers i 0)) now after next last
      → Wrote (bytes_of width (take (i + 1) numbers)) before after at last
  unfolding bytes_of
  numbers_more i w more one =
      let last = ap (bytes_of width) (take_more numbers i 0 more) ∙ bytes_append width (take i numbers) (get_or numbers i 0 ∷ []) in
      wrote_as (sym (last ∙ ap (λ (rest : List ℕ). bytes_of width (take i numbers) ++ rest) (append-nil (number_bytes width (get_or numbers i 0)))))
      (wrote_more w one)
