-- Inner: the notes of the sole tops of clauses, and what two sole tops have in common.
use Rattle.std.specs.Prelude.{ℕ, ◌+◌, ◌≤◌, ◌<◌, ◌≡◌, List, ◌≢◌, ◌↔◌, ℤ, length, get_or, None, Some, Ok, Err}
use Rattle.formula.specs.InnerLookup.{NextZero}
use Rattle.forest_entries.specs.InnerFlags.{Has, Via}
use Rattle.sets_occurrences.specs.InnerSoleTops.{Sole, Names, SoleOf}

-- a sole top that is there is a variable within the limit
abbrev pub SmallSole : Sole → Type 0
SmallSole (Ok None) = Unit {0}
SmallSole (Ok (Some top)) = (top.0 ≢ 0) × (top.0 ≤ 4096)
SmallSole (Err several) = Unit {0}

-- a number notes a sole top, or several
abbrev pub NoteOf : ℕ → Sole → Type 0
NoteOf note (Ok None) = note ≡ 1
NoteOf note (Ok (Some top)) = (note ≡ top.0 + 1) × (top.0 ≢ 0) × (note ≢ 65535)
NoteOf note (Err several) = note ≡ 65535

-- what it notes is the sole top of the clause that begins with an entry
abbrev pub NoteIs : ℕ → List ℕ → List ℤ → ℕ → ℕ → Type 0
NoteIs n tops ls start note =
    (note ≢ 0) × ((sole : Sole) → NoteOf note sole → (z : ℕ) → NextZero ls start z → SoleOf sole (Via n tops (Has ls start z)))

-- so of every entry that has a note, 0 for none
abbrev pub Notes : ℕ → List ℕ → List ℤ → List ℕ → Type 0
Notes n tops ls notes =
    (length ls ≤ length notes) × ((start : ℕ) → start < length ls → get_or notes start 0 ≢ 0 → NoteIs n tops ls start (get_or notes start 0))

-- what two have in common, the first being that
abbrev pub CommonOf : Sole → Sole → Sole → Type 0
CommonOf (Err several) one other = Unit {0}
CommonOf (Ok both) (Ok one) (Ok other) = (e : ℕ) → Names both e ↔ (Names one e × Names other e)
CommonOf (Ok both) (Ok one) (Err several) = (one ≡ None) × (both ≡ None)
CommonOf (Ok both) (Err several) (Ok other) = (other ≡ None) × (both ≡ None)
CommonOf (Ok both) (Err several) (Err several') = ⊥
