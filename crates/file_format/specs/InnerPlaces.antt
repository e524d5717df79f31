-- Inner: the places of a file with the kind of the record before each, as a walk over the records carries it, and which kind may come behind that. The laws
-- of `Passing` tie them to the kinds passed, each way. No promise of a call rests on it.
use Rattle.std.specs.Prelude.{◌≡◌, ℕ, ◌<◌, ◌≤◌, Bool, false, ◌&&◌, ◌||◌, ◌≢◌, List, [], ◌∷◌, length, ◌==◌}
use Rattle.file_format.specs.Layout.{prefix_kind, clauses_kind, rows_kind, sets_kind, closing_kind}
use Rattle.file_format.specs.Places.{kind_at, next_at}

-- A place at which a record begins or would begin: the beginning of the file, or behind a record that is not cut by the end of the file.
-- The kind of that record goes with it, and 0 with the beginning of the file.
pub data Reached (file : List ℕ) : ℕ → ℕ → Type 0 where
  start : {before place : ℕ} → before ≡ 0 → place ≡ 0 → Reached file before place
  behind : {before place : ℕ} (earlier p : ℕ) → Reached file earlier p → next_at file p ≤ length file → before ≡ kind_at file p
      → place ≡ next_at file p → Reached file before place

-- which kind may come behind a kind, 0 for the beginning of the file: 1, 2, 3, then 4 or not, then 65,535
unfoldable pub may_follow : ℕ → ℕ → Bool
may_follow before kind =
    (before == 0 && kind == prefix_kind)
    || ((before == prefix_kind && kind == clauses_kind)
    || ((before == clauses_kind && kind == rows_kind)
    || ((before == rows_kind && (kind == sets_kind || kind == closing_kind))
    || (before == sets_kind && kind == closing_kind))))

-- the last of some kinds, and `k` where there are none
abbrev pub last_of : ℕ → List ℕ → ℕ
last_of k [] = k
last_of k (next ∷ more) = last_of next more

-- 20, by the kind before a place: a kind that may not come behind that one, or the end of the file behind another kind than 65,535
pub data StepCause (file : List ℕ) (number place : ℕ) : Type 0 where
  wrong : (before : ℕ) → number ≡ 20 → Reached file before place → place < length file → may_follow before (kind_at file place) ≡ false
      → StepCause file number place
  missing : (before : ℕ) → number ≡ 20 → Reached file before place → place ≡ length file → before ≢ closing_kind → StepCause file number place
