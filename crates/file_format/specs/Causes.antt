-- The causes of refusals 19 to 22, and of 14, for reading and writing a file, line by line as the table has them (rule 8.1, rule 10.5), and the orders of
-- the two calls (rule 8.4), which take the number of a reading rule (rule 6.1).
use Rattle.std.specs.Prelude.{◌≡◌, ℕ, ◌%◌, ◌<◌, ◌≤◌, true, false, ◌≢◌, ◌⊎◌, List, [], ◌∷◌, ◌++◌, length, ℤ}
use Rattle.std.specs.Borrow.{MutBor}
use denote.Triple.Both.{Both}
use Rattle.terms.specs.Refusals.{Causes, At0}
use Rattle.formula.specs.Causes.{VariableCount, LengthCause, ClauseCause}
use Rattle.formula.specs.Lent.{Formula}
use Rattle.formula_rules.specs.Rules.{read_as, read_by, RuleCause, PrefixCauseBy}
use Rattle.forest_tables.specs.Lent.{Rows, rows_lent, rows_out}
use Rattle.file_format.specs.Layout.{prefix_kind, clauses_kind, closing_kind, ForestRows, StandardSets, FileWith, SumsToZero}
use Rattle.file_format.specs.Places.{size_at, kind_at, next_at, Passed, RecordAt, Whole, KindsInOrder, third_at, fourth_at, has_sets, formula_held, HoldsNumbers}

-- the most bytes that a file may have
abbrev pub file_bytes : ℕ
file_bytes = 262144

-- 19, for a file too long: tested first, place 0
abbrev pub TooLarge : List ℕ → Type 0
TooLarge file = file_bytes < length file

abbrev pub LargeCause : List ℕ → Causes
LargeCause file = At0 19 (TooLarge file)

-- 19: the place is where the record begins
pub data RecordCause (file : List ℕ) (number place : ℕ) : Type 0 where
  -- length cut: the head or the payload goes past the end of the file
  cut : number ≡ 19 → RecordAt file place → length file < next_at file place → RecordCause file number place
  -- length odd
  odd : number ≡ 19 → RecordAt file place → size_at file place % 2 ≢ 0 → RecordCause file number place
  -- kind 1 under two bytes
  no_count : number ≡ 19 → RecordAt file place → kind_at file place ≡ prefix_kind → size_at file place < 2 → RecordCause file number place
  -- kind 2 not whole literals
  part_literal : number ≡ 19 → RecordAt file place → kind_at file place ≡ clauses_kind → size_at file place % 4 ≢ 0 → RecordCause file number place
  -- kind 65,535 not two bytes
  no_word : number ≡ 19 → RecordAt file place → kind_at file place ≡ closing_kind → size_at file place ≢ 2 → RecordCause file number place

-- 20: the place is where the record begins, or would if it is missing
pub data OrderCause (file : List ℕ) (number place : ℕ) : Type 0 where
  -- unknown kind or wrong order: the kinds so far, with this one, are not the first of a file's
  wrong : (kinds : List ℕ) → number ≡ 20 → Passed file kinds place → place < length file → (KindsInOrder (kinds ++ (kind_at file place ∷ [])) → ⊥)
      → OrderCause file number place
  -- a kind missing: the file ends, and its kinds are not all
  missing : (kinds : List ℕ) → number ≡ 20 → Passed file kinds place → place ≡ length file → (Whole kinds → ⊥) → OrderCause file number place

-- 21: the file's words do not sum to zero
abbrev pub SumCause : List ℕ → Causes
SumCause file = At0 21 (SumsToZero file → ⊥)

-- the rows, and the sets, that kinds 3 and 4 have are those of a formula, in number and value
abbrev pub RightRows : Formula → List ℕ → Rows → Type 0
RightRows f file r = ForestRows f r × HoldsNumbers 4 file (third_at file) (r.classes ++ (r.parents ++ r.counts))

abbrev pub RightSets : Formula → List ℕ → Type 0
RightSets f file = (sets : List ℕ) × StandardSets f sets × HoldsNumbers 2 file (fourth_at file) sets

-- 22: rows or sets disagree with the formula; the place is where the record begins
pub data ForestFileCause (f : Formula) (file : List ℕ) (number place : ℕ) : Type 0 where
  rows_disagree : number ≡ 22 → place ≡ third_at file → ((r : Rows) → RightRows f file r → ⊥) → ForestFileCause f file number place
  sets_disagree : number ≡ 22 → place ≡ fourth_at file → has_sets file ≡ true → (RightSets f file → ⊥) → ForestFileCause f file number place

-- What is lent to be filled by reading: tables for the prefix, for the clauses, and for the rows.
pub record Lent : Type 0 where
  pub prefix : List ℕ
  pub clauses : List ℤ
  pub rows : Rows

abbrev pub lent_tables : List ℕ → List ℤ → Rows → Lent
lent_tables prefix clauses rows = record { prefix = prefix; clauses = clauses; rows = rows }

-- the tables of a call's parameters, as they were passed, and as the call leaves them
abbrev pub lent_in : {P L C Q N : Type 0}
    → Both (MutBor (List ℕ)) P → Both (MutBor (List ℤ)) L → Both (MutBor (List ℕ)) C → Both (MutBor (List ℕ)) Q → Both (MutBor (List ℕ)) N → Lent
lent_in prefix clauses classes parents counts = lent_tables prefix.entry.now clauses.entry.now (rows_lent classes parents counts)

abbrev pub lent_out : {P L C Q N : Type 0}
    → Both P (MutBor (List ℕ)) → Both L (MutBor (List ℤ)) → Both C (MutBor (List ℕ)) → Both Q (MutBor (List ℕ)) → Both N (MutBor (List ℕ)) → Lent
lent_out prefix clauses classes parents counts = lent_tables prefix.exit.now clauses.exit.now (rows_out classes parents counts)

-- 14, for reading: a lent table is shorter than what a formula and its rows have for it
abbrev pub NoFileRoom : Formula → Lent → Type 0
NoFileRoom f lent =
    (length lent.prefix < length f.prefix)
    ⊎ ((length lent.clauses < length f.clauses)
    ⊎ ((length lent.rows.classes < f.n) ⊎ ((length lent.rows.parents < f.n) ⊎ (length lent.rows.counts < f.n))))

-- every lent table is long enough for what a formula and its rows have for it
abbrev pub Roomy : Formula → Lent → Type 0
Roomy f lent =
    (length f.prefix ≤ length lent.prefix) × (length f.clauses ≤ length lent.clauses)
    × (f.n ≤ length lent.rows.classes) × (f.n ≤ length lent.rows.parents) × (f.n ≤ length lent.rows.counts)

abbrev pub RoomCause : Formula → Lent → Causes
RoomCause f lent = At0 14 (NoFileRoom f lent)

-- the order of reading: 23, which comes before all others, 19 (too long), 19, 20, 21, of the formula in the file 1, 2, prefix from the left and clause
-- literals from the left, 22, 14
abbrev pub load_order : ℕ → List ℕ → Lent → List Causes
load_order rule file lent =
    RuleCause rule ∷ LargeCause file ∷ RecordCause file ∷ OrderCause file ∷ SumCause file ∷ VariableCount (formula_held file).n
    ∷ LengthCause (formula_held file).prefix (length (formula_held file).clauses)
    ∷ PrefixCauseBy rule (formula_held file).n (formula_held file).prefix ∷ ClauseCause (formula_held file).n (formula_held file).clauses
    ∷ ForestFileCause (read_by rule (formula_held file)) file ∷ RoomCause (formula_held file) lent ∷ []

-- 19 and 14, for writing a formula whose prefix is read as `read`: its file is too long, which within the limits it never is (proofs/Short); it is
-- longer than the table that is lent for it
abbrev pub FileTooLarge : Formula → List ℕ → Type 0
FileTooLarge f read = (file : List ℕ) × FileWith false f read file × TooLarge file

abbrev pub FileTooLong : Formula → List ℕ → List ℕ → Type 0
FileTooLong f read before = (file : List ℕ) × FileWith false f read file × (length before < length file)

abbrev pub StoredLargeCause : Formula → List ℕ → Causes
StoredLargeCause f read = At0 19 (FileTooLarge f read)

abbrev pub StoredRoomCause : Formula → List ℕ → List ℕ → Causes
StoredRoomCause f read before = At0 14 (FileTooLong f read before)

-- the order of writing: 23, 1, 2, prefix from the left, clause literals from the left, 19, 14
abbrev pub store_order : ℕ → Formula → List ℕ → List Causes
store_order rule f before =
    RuleCause rule ∷ VariableCount f.n ∷ LengthCause f.prefix (length f.clauses) ∷ PrefixCauseBy rule f.n f.prefix
    ∷ ClauseCause f.n f.clauses ∷ StoredLargeCause f (read_as rule f.prefix) ∷ StoredRoomCause f (read_as rule f.prefix) before ∷ []
