-- The laws of the sum of a file's words: word by word.
use Rattle.std.proofs.Common.{◌≡◌, ℕ, suc, ◌+◌, ◌%◌, ◌/◌, ◌<◌, List, [], ◌∷◌, ◌++◌, length, refl, arith}
use Rattle.std.specs.Int.{from_le_bytes, w16}
use Rattle.std.specs.List.{sum_by}
use Rattle.std.specs.Simd.{first_chunks}
use Rattle.std.proofs.lemmas.List.Sums.{sum_by-cons}
use Rattle.file_format.specs.Numbers.{number_bytes, word_sum}
use Rattle.file_format.specs.Layout.{record_bytes, closing_record}

-- the words of a file are its pairs of bytes, each read as a number with the low byte first
pub words_sum : (file : List ℕ) → word_sum file ≡ sum_by (from_le_bytes w16) (first_chunks 2 (length file / 2) file)
unfolding word_sum
words_sum [] = refl
words_sum (odd ∷ []) = refl
words_sum (low ∷ high ∷ more) =
    let half : suc (suc (length more)) / 2 ≡ suc (length more / 2) = omega arith in
    let first = sum_by-cons (from_le_bytes w16) (low ∷ high ∷ []) (first_chunks 2 (length more / 2) more) in
    rw half (let rest = words_sum more in omega arith)

-- words in front of others, where no byte is left over
pub sum_append : (front back : List ℕ) → length front % 2 ≡ 0 → word_sum (front ++ back) ≡ word_sum front + word_sum back
unfolding word_sum
sum_append [] back even = omega arith
sum_append (a ∷ []) back even = let no : ⊥ = omega arith in absurd no
sum_append (a ∷ b ∷ front) back even = let rest = sum_append front back (omega arith) in omega arith

-- the last record, by its word
pub closing_sum : (word : ℕ) → word < 65536 → word_sum (closing_record word) ≡ 65537 + word
unfolding closing_record record_bytes number_bytes word_sum
closing_sum word fits = omega arith
