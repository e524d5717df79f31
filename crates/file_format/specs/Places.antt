-- Where the records of any file begin (rule 10.1), in which order kinds may come, and the formula that kinds 1 and 2 hold (rule 10.2).
use Rattle.std.specs.Prelude.{◌≡◌, ℕ, ◌+◌, ◌-◌, ◌*◌, ◌/◌, ◌<◌, ◌≤◌, Bool, ◌⊎◌, List, [], ◌∷◌, ◌++◌, map, length, take, ℤ, ◌==◌}
use Rattle.formula.specs.Lent.{Formula, formula_of}
use Rattle.file_format.specs.Numbers.{number_at, numbers_at, literal_of}
use Rattle.file_format.specs.Layout.{prefix_kind, clauses_kind, rows_kind, sets_kind, closing_kind}

-- Of a record that begins at p: its payload length, its kind, where its payload begins, and the place behind it.
unfoldable pub size_at : List ℕ → ℕ → ℕ
size_at file p = number_at 4 file p

unfoldable pub kind_at : List ℕ → ℕ → ℕ
kind_at file p = number_at 2 file (p + 4)

abbrev pub payload_at : ℕ → ℕ
payload_at p = p + 6

unfoldable pub next_at : List ℕ → ℕ → ℕ
next_at file p = payload_at p + size_at file p

-- The kinds of the records before a place at which a record begins or would begin, from the beginning of the file on, one after the other; none of them is
-- cut by the end of the file.
pub data Passed (file : List ℕ) : List ℕ → ℕ → Type 0 where
  start : {place : ℕ} → place ≡ 0 → Passed file [] place
  behind : (kinds : List ℕ) {place : ℕ} (p : ℕ) → Passed file kinds p → next_at file p ≤ length file → place ≡ next_at file p
      → Passed file (kinds ++ (kind_at file p ∷ [])) place

-- A record begins there: the file goes on.
pub record RecordAt (file : List ℕ) (place : ℕ) : Type 0 where
  pub kinds : List ℕ
  pub passed : Passed file kinds place
  pub goes_on : place < length file

-- the kinds of a file, once each and in their order; kind 4 may be absent
abbrev pub with_sets : List ℕ
with_sets = prefix_kind ∷ clauses_kind ∷ rows_kind ∷ sets_kind ∷ closing_kind ∷ []

abbrev pub without_sets : List ℕ
without_sets = prefix_kind ∷ clauses_kind ∷ rows_kind ∷ closing_kind ∷ []

-- all of them, or the first of them
abbrev pub Whole : List ℕ → Type 0
Whole kinds = (kinds ≡ with_sets) ⊎ (kinds ≡ without_sets)

abbrev pub KindsInOrder : List ℕ → Type 0
KindsInOrder kinds = (kinds ≡ take (length kinds) with_sets) ⊎ (kinds ≡ take (length kinds) without_sets)

-- where the records of kinds 2 and 3 begin in a file with the kinds in their order, and the record behind them, which may be of kind 4; that of kind
-- 1 begins at 0
unfoldable pub second_at : List ℕ → ℕ
second_at file = next_at file 0

unfoldable pub third_at : List ℕ → ℕ
third_at file = next_at file (second_at file)

unfoldable pub fourth_at : List ℕ → ℕ
fourth_at file = next_at file (third_at file)

unfoldable pub has_sets : List ℕ → Bool
has_sets file = (kind_at file (fourth_at file)) == sets_kind

-- n and the prefix, which kind 1 has; the clauses, which kind 2 has
unfoldable pub count_in : List ℕ → ℕ
count_in file = number_at 2 file (payload_at 0)

unfoldable pub prefix_held : List ℕ → List ℕ
prefix_held file = numbers_at 2 file (payload_at 0 + 2) ((size_at file 0 - 2) / 2)

unfoldable pub clauses_in : List ℕ → List ℤ
clauses_in file = map literal_of (numbers_at 4 file (payload_at (second_at file)) (size_at file (second_at file) / 4))

-- the formula that a file holds
abbrev pub formula_held : List ℕ → Formula
formula_held file = formula_of (count_in file) (prefix_held file) (clauses_in file)

-- The record at p has just these numbers, in number and value, each of so many bytes.
pub record HoldsNumbers (width : ℕ) (file : List ℕ) (p : ℕ) (numbers : List ℕ) : Type 0 where
  pub size : size_at file p ≡ width * length numbers
  pub values : numbers_at width file (payload_at p) (length numbers) ≡ numbers
