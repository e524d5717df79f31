-- A file of a formula is made of bytes, whatever the formula is.
use Rattle.std.proofs.Common.{ℕ, zero, suc, ◌/◌, ◌%◌, ◌<◌, false, List, [], ◌∷◌, ◌++◌, map, length, sym, ap, ◌∙◌, subst, arith}
use Rattle.formula.specs.Lent.{Formula}
use Rattle.file_format.specs.Numbers.{number_bytes, bytes_of, literal_number}
use Rattle.file_format.specs.Layout.{prefix_kind, clauses_kind, rows_kind, closing_kind, record_bytes, prefix_record, clauses_record, rows_record, closing_record, FileWith}
use Rattle.file_format.proofs.Changed.{Bytes}

-- Bytes, one more in front and some after others.
one_more : (byte : ℕ) (more : List ℕ) → byte < 256 → Bytes more → Bytes (byte ∷ more)
one_more byte more low on zero l = low
one_more byte more low on (suc i) l = on i (omega arith)

then_more : (xs ys : List ℕ) → Bytes xs → Bytes ys → Bytes (xs ++ ys)
then_more [] ys a b = b
then_more (x ∷ xs) ys a b = one_more x (xs ++ ys) (a 0 (omega arith)) (then_more xs ys (λ i l. a (suc i) (omega arith)) b)

-- Numbers, and records of them.
number_in_bytes : (width number : ℕ) → Bytes (number_bytes width number)
unfolding number_bytes
number_in_bytes zero number = λ i l. absurd (omega arith)
number_in_bytes (suc width) number =
    one_more (number % 256) (number_bytes width (number / 256)) (let q = number in omega arith) (number_in_bytes width (number / 256))

all_in_bytes : (width : ℕ) (numbers : List ℕ) → Bytes (bytes_of width numbers)
unfolding bytes_of
all_in_bytes width [] = λ i l. absurd (omega arith)
all_in_bytes width (number ∷ more) = then_more (number_bytes width number) (bytes_of width more) (number_in_bytes width number) (all_in_bytes width more)

record_in_bytes : (kind : ℕ) (payload : List ℕ) → Bytes payload → Bytes (record_bytes kind payload)
unfolding record_bytes
record_in_bytes kind payload b =
    then_more (number_bytes 4 (length payload)) (number_bytes 2 kind ++ payload) (number_in_bytes 4 (length payload))
    (then_more (number_bytes 2 kind) payload (number_in_bytes 2 kind) b)

-- So the whole file, without sets.
pub file_in_bytes : (f : Formula) (read file : List ℕ) → FileWith false f read file → Bytes file
unfolding prefix_record clauses_record rows_record closing_record
file_in_bytes f read file g =
    let r = g.rows in
    let numbers = r.classes ++ (r.parents ++ r.counts) in
    let rows = rows_record r.classes r.parents r.counts in
    let closing = closing_record g.word in
    let none = g.sets_are in
    let whole = g.bytes ∙ ap (λ (sets : List ℕ). prefix_record f.n f.prefix ++ (clauses_record f.clauses ++ (rows ++ (sets ++ closing)))) none in
    subst Bytes (sym whole)
    (then_more (prefix_record f.n f.prefix) (clauses_record f.clauses ++ (rows ++ closing))
    (record_in_bytes prefix_kind (bytes_of 2 (f.n ∷ f.prefix)) (all_in_bytes 2 (f.n ∷ f.prefix)))
    (then_more (clauses_record f.clauses) (rows ++ closing)
    (record_in_bytes clauses_kind (bytes_of 4 (map literal_number f.clauses)) (all_in_bytes 4 (map literal_number f.clauses)))
    (then_more rows closing (record_in_bytes rows_kind (bytes_of 4 numbers) (all_in_bytes 4 numbers))
    (record_in_bytes closing_kind (number_bytes 2 g.word) (number_in_bytes 2 g.word)))))
