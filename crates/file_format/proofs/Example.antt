-- A worked example: the file of n 2, blocks a 1, e 2 and the clause {1 -2}, with its sets and as it is written, byte by byte.
use Rattle.std.proofs.Common.{◌≡◌, ℕ, true, List, [], ◌∷◌, ◌++◌, ℤ, pos, negsuc, sym, refl}
use Rattle.file_format.specs.Numbers.{number_at, numbers_at, number_bytes, bytes_of, literal_number, literal_of, word_sum}
use Rattle.file_format.specs.Layout.{sets_kind, record_bytes, prefix_record, clauses_record, rows_record, closing_record, SumsToZero}
use Rattle.file_format.specs.Places.{size_at, kind_at, next_at, second_at, third_at, fourth_at, has_sets, count_in, prefix_held, clauses_in}
use Rattle.file_format.specs.Promises.{WithoutSets, refitted}

abbrev pub prefix_e : List ℕ
prefix_e = 2 ∷ 1 ∷ 0 ∷ 1 ∷ 2 ∷ 0 ∷ []

abbrev pub clauses_e : List ℤ
clauses_e = pos 1 ∷ negsuc 1 ∷ pos 0 ∷ []

-- kinds 1 to 3
abbrev pub head_e : List ℕ
head_e =
    14 ∷ 0 ∷ 0 ∷ 0 ∷ 1 ∷ 0 ∷ 2 ∷ 0 ∷ 2 ∷ 0 ∷ 1 ∷ 0 ∷ 0 ∷ 0 ∷ 1 ∷ 0 ∷ 2 ∷ 0 ∷ 0 ∷ 0
    ∷ 12 ∷ 0 ∷ 0 ∷ 0 ∷ 2 ∷ 0 ∷ 1 ∷ 0 ∷ 0 ∷ 0 ∷ 254 ∷ 255 ∷ 255 ∷ 255 ∷ 0 ∷ 0 ∷ 0 ∷ 0
    ∷ 24 ∷ 0 ∷ 0 ∷ 0 ∷ 3 ∷ 0 ∷ 0 ∷ 0 ∷ 0 ∷ 0 ∷ 2 ∷ 0 ∷ 0 ∷ 0
    ∷ 0 ∷ 0 ∷ 0 ∷ 0 ∷ 0 ∷ 0 ∷ 0 ∷ 0 ∷ 0 ∷ 0 ∷ 0 ∷ 0 ∷ 1 ∷ 0 ∷ 0 ∷ 0 ∷ []

-- with kind 4, and as it is written
abbrev pub file_e : List ℕ
file_e = head_e ++ (6 ∷ 0 ∷ 0 ∷ 0 ∷ 4 ∷ 0 ∷ 1 ∷ 0 ∷ 1 ∷ 0 ∷ 2 ∷ 0 ∷ 2 ∷ 0 ∷ 0 ∷ 0 ∷ 255 ∷ 255 ∷ 176 ∷ 255 ∷ [])

abbrev pub written_e : List ℕ
written_e = head_e ++ (2 ∷ 0 ∷ 0 ∷ 0 ∷ 255 ∷ 255 ∷ 190 ∷ 255 ∷ [])

-- its records: each kind in its bytes, with the class names 0 2, the parents 0 0, the counts 0 1, and the set of 1, which is 2
abbrev rows_e : List ℕ
rows_e = rows_record (0 ∷ 2 ∷ []) (0 ∷ 0 ∷ []) (0 ∷ 1 ∷ [])

pub records_are : file_e ≡ prefix_record 2 prefix_e
    ++ (clauses_record clauses_e ++ (rows_e ++ (record_bytes sets_kind (bytes_of 2 (1 ∷ 1 ∷ 2 ∷ [])) ++ closing_record 65456)))
unfolding prefix_record clauses_record rows_record closing_record record_bytes bytes_of number_bytes literal_number
records_are = refl

pub written_are : written_e ≡ prefix_record 2 prefix_e ++ (clauses_record clauses_e ++ (rows_e ++ closing_record 65470))
unfolding prefix_record clauses_record rows_record closing_record record_bytes bytes_of number_bytes literal_number
written_are = refl

-- its words sum to zero
pub sum_closes : SumsToZero file_e
unfolding word_sum
sum_closes = refl

-- where its records begin, and what they say
pub second_at_lem : second_at file_e ≡ 20
unfolding second_at next_at size_at number_at
second_at_lem = refl

pub third_at_lem : third_at file_e ≡ 38
unfolding third_at second_at next_at size_at number_at
third_at_lem = refl

pub fourth_at_lem : fourth_at file_e ≡ 68
unfolding fourth_at third_at second_at next_at size_at number_at
fourth_at_lem = refl

pub has_sets_lem : has_sets file_e ≡ true
unfolding has_sets kind_at fourth_at third_at second_at next_at size_at number_at
has_sets_lem = refl

pub count_in_lem : count_in file_e ≡ 2
unfolding count_in number_at
count_in_lem = refl

pub prefix_in : prefix_held file_e ≡ prefix_e
unfolding prefix_held size_at numbers_at number_at
prefix_in = refl

pub clauses_in_lem : clauses_in file_e ≡ clauses_e
unfolding clauses_in literal_of second_at next_at size_at numbers_at number_at
clauses_in_lem = refl

-- writing it again drops its kind 4 and refits the closing word
pub sets_dropped : WithoutSets file_e true written_e
unfolding closing_record record_bytes number_bytes word_sum
sets_dropped = refitted head_e (1 ∷ 0 ∷ 1 ∷ 0 ∷ 2 ∷ 0 ∷ []) 65456 65470 (sym fourth_at_lem) refl refl refl
