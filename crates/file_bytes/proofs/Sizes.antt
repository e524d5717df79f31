-- Where what is stored ends: behind a head, behind a number, behind numbers.
use Rattle.std.proofs.Common.{◌≡◌, ℕ, ◌+◌, ◌*◌, List, length, arith, length-append}
use Rattle.text_write.specs.InnerBytes.{Wrote}
use Rattle.file_format.specs.Numbers.{number_bytes, bytes_of}
use Rattle.file_format.proofs.Lengths.{number_length, bytes_length}
use Rattle.file_bytes.specs.InnerParts.{head_bytes}

head_length : (size kind : ℕ) → length (head_bytes size kind) ≡ 6
head_length size kind =
    let l = length-append (number_bytes 4 size) (number_bytes 2 kind) in
    let a = number_length 4 size in
    let b = number_length 2 kind in
    omega arith

module _ {before after : List ℕ} {at next : ℕ} where
  pub head_end : (size kind : ℕ) → Wrote (head_bytes size kind) before after at next → next ≡ at + 6
  head_end size kind w = omega (arith, w.end, head_length size kind)

  pub number_end : (width number : ℕ) → Wrote (number_bytes width number) before after at next → next ≡ at + width
  number_end width number w = omega (arith, w.end, number_length width number)

  pub numbers_end : (width : ℕ) (numbers : List ℕ) → Wrote (bytes_of width numbers) before after at next → next ≡ at + width * length numbers
  numbers_end width numbers w = omega (arith, w.end, bytes_length width numbers)
