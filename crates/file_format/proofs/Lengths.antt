-- How many bytes numbers and records take, and numbers one run after another.
use Rattle.std.proofs.Common.{◌≡◌, ℕ, zero, suc, ◌+◌, ◌*◌, ◌/◌, List, [], ◌∷◌, ◌++◌, map, length, ℤ, sym, refl, ap, ◌∙◌, append_assoc, mul-suc, arith, length-append}
use lib.ListN.{length-map}
use Rattle.file_format.specs.Numbers.{number_bytes, bytes_of, literal_number}
use Rattle.file_format.specs.Layout.{record_bytes, prefix_record, clauses_record, rows_record, closing_record}

pub number_length : (width number : ℕ) → length (number_bytes width number) ≡ width
unfolding number_bytes
number_length zero number = refl
number_length (suc width) number = ap suc (number_length width (number / 256))

pub bytes_length : (width : ℕ) (numbers : List ℕ) → length (bytes_of width numbers) ≡ width * length numbers
unfolding bytes_of
bytes_length width [] = sym (let z : width * 0 ≡ 0 = omega arith in z)
bytes_length width (number ∷ more) =
    let l = length-append (number_bytes width number) (bytes_of width more) in
    let one = number_length width number in
    let rest = bytes_length width more in
    let m = mul-suc width (length more) in
    omega arith

pub bytes_append : (width : ℕ) (xs ys : List ℕ) → bytes_of width (xs ++ ys) ≡ bytes_of width xs ++ bytes_of width ys
unfolding bytes_of
bytes_append width [] ys = refl
bytes_append width (x ∷ xs) ys =
    ap (λ (rest : List ℕ). number_bytes width x ++ rest) (bytes_append width xs ys)
    ∙ sym (append_assoc (number_bytes width x) (bytes_of width xs) (bytes_of width ys))

pub record_length : (kind : ℕ) (payload : List ℕ) → length (record_bytes kind payload) ≡ 6 + length payload
unfolding record_bytes
record_length kind payload =
    let a = length-append (number_bytes 4 (length payload)) (number_bytes 2 kind ++ payload) in
    let b = length-append (number_bytes 2 kind) payload in
    let c = number_length 4 (length payload) in
    let d = number_length 2 kind in
    omega arith

-- each kind
pub prefix_length : (n : ℕ) (es : List ℕ) → length (prefix_record n es) ≡ 8 + 2 * length es
unfolding prefix_record
prefix_length n es = let r = record_length 1 (bytes_of 2 (n ∷ es)) in let b = bytes_length 2 (n ∷ es) in omega arith

pub clauses_length : (ls : List ℤ) → length (clauses_record ls) ≡ 6 + 4 * length ls
unfolding clauses_record
clauses_length ls =
    let r = record_length 2 (bytes_of 4 (map literal_number ls)) in
    let b = bytes_length 4 (map literal_number ls) in
    let m = length-map ls literal_number in
    omega arith

pub rows_length : (classes parents counts : List ℕ)
    → length (rows_record classes parents counts) ≡ 6 + 4 * (length classes + (length parents + length counts))
unfolding rows_record
rows_length classes parents counts =
    let r = record_length 3 (bytes_of 4 (classes ++ (parents ++ counts))) in
    let b = bytes_length 4 (classes ++ (parents ++ counts)) in
    let l = length-append classes (parents ++ counts) in
    let l' = length-append parents counts in
    omega arith

pub closing_length : (word : ℕ) → length (closing_record word) ≡ 8
unfolding closing_record
closing_length word = let r = record_length 65535 (number_bytes 2 word) in let b = number_length 2 word in omega arith
