-- Numbers and literals in a file: so many bytes each, little-endian (rule 10.1); and the sum of the file's 16-bit words (rule 10.3).
use Rattle.std.specs.Prelude.{ℕ, zero, suc, ◌+◌, ◌-◌, ◌*◌, ◌/◌, ◌%◌, cond, List, [], ◌∷◌, ◌++◌, ℤ, pos, negsuc, nat_lt, slice_index}

-- the number in so many bytes from place p on; a byte past the end counts as 0
unfoldable pub number_at : ℕ → List ℕ → ℕ → ℕ
number_at zero file p = 0
number_at (suc width) file p = slice_index file p + 256 * number_at width file (suc p)

-- so many numbers from place p on, each of so many bytes
unfoldable pub numbers_at : ℕ → List ℕ → ℕ → ℕ → List ℕ
numbers_at width file p zero = []
numbers_at width file p (suc many) = number_at width file p ∷ numbers_at width file (p + width) many

-- the bytes of a number, so many; and of numbers, one after the other
unfoldable pub number_bytes : ℕ → ℕ → List ℕ
number_bytes zero number = []
number_bytes (suc width) number = (number % 256) ∷ number_bytes width (number / 256)

unfoldable pub bytes_of : ℕ → List ℕ → List ℕ
bytes_of width [] = []
bytes_of width (number ∷ more) = number_bytes width number ++ bytes_of width more

-- a literal as a four-byte number, in two's complement; and the literal that such a number is
unfoldable pub literal_number : ℤ → ℕ
literal_number (pos v) = v
literal_number (negsuc v) = 4294967295 - v

unfoldable pub literal_of : ℕ → ℤ
literal_of number = cond (nat_lt number 2147483648) (pos number) (negsuc (4294967295 - number))

-- the sum of the 16-bit words of a file, the low byte of each first; a byte that is left over at the end belongs to no word
unfoldable pub word_sum : List ℕ → ℕ
word_sum [] = 0
word_sum (odd ∷ []) = 0
word_sum (low ∷ high ∷ more) = low + 256 * high + word_sum more
