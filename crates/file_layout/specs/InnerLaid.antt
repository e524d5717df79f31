-- What the walk over the records of a file finds. What a reader must believe of it is in the definitions of `file_format`.
use Rattle.std.specs.Prelude.{ℕ, ◌<◌, ◌≤◌, ◌%◌, ◌≡◌, List, ◌⊎◌, ◌≢◌}
use Rattle.terms.specs.Says.{Said, gives, refuses}
use Rattle.file_format.specs.Layout.{prefix_kind, clauses_kind, closing_kind}
use Rattle.file_format.specs.Places.{size_at, next_at, fourth_at}
use Rattle.file_format.specs.Causes.{file_bytes, RecordCause}

-- a payload length does not fit a kind
abbrev pub WrongSize : ℕ → ℕ → Type 0
WrongSize kind size =
    (size % 2 ≢ 0) ⊎ (((kind ≡ prefix_kind) × (size < 2)) ⊎ (((kind ≡ clauses_kind) × (size % 4 ≢ 0)) ⊎ ((kind ≡ closing_kind) × (size ≢ 2))))

-- What a record says that is passed: the place behind it where nothing is wrong with it, and else 19 at the place where it begins.
abbrev pub Passed : List ℕ → ℕ → Said ℕ → Type 0
Passed file at (gives next) = (next ≡ next_at file at) × (RecordCause file 19 at → ⊥)
Passed file at (refuses number place) = (number ≡ 19) × (place ≡ at) × RecordCause file 19 at

-- The records of a file with the kinds in their order end within the longest file, and kind 1 has n.
pub record Laid (file : List ℕ) : Type 0 where
  pub counted : 2 ≤ size_at file 0
  pub ends : next_at file (fourth_at file) ≤ file_bytes
