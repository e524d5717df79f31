-- Inner: the record of one universal in the list of all sets, as it is written or only counted.
use Rattle.std.specs.Prelude.{ℕ, ◌+◌, ◌≤◌, ◌≡◌, Bool, true, cond, List, ◌∷◌, ℤ, length}
use Rattle.std.proofs.lemmas.List.Edits.{sets}
use Rattle.terms.specs.declared.Scheme.{Scheme}
use Rattle.forest_members.specs.declared.Asked.TheVariants.{Set}
use Rattle.forest_members.specs.InnerPicked.{pick, picked}
use Rattle.sets_occurrences.specs.InnerThreads.{EnteredBy}
use Rattle.sets_record.specs.declared.Draft.{Draft}

-- the record of x with a set, written or only counted: `end` is the entry behind it
abbrev pub PutList : List ℕ → ℕ → ℕ → Bool → List ℕ → List ℕ → ℕ → Type 0
PutList list x at writing before after end = (end ≡ at + 2 + length list) × (after ≡ cond writing (sets before at (x ∷ length list ∷ list)) before)

-- the record of x with the set that some flags pick
abbrev pub Put : ℕ → List ℕ → List Bool → ℕ → ℕ → Bool → List ℕ → List ℕ → ℕ → Type 0
Put n tops flags = PutList (picked (pick Set n flags tops) n)

-- the record of x with its set by a scheme, told by the flags of its entry points
pub record PutSet (scheme : Scheme) (n : ℕ) (tops : List ℕ) (ls : List ℤ) (x at : ℕ) (writing : Bool) (before after : List ℕ) (end : ℕ)
    : Type 0 where
  pub flags : List Bool
  pub flagged : EnteredBy scheme n tops ls x flags
  pub put : Put n tops flags x at writing before after end

-- there is room for it, if it is to be written
abbrev pub RoomFor : Scheme → ℕ → List ℕ → List ℤ → ℕ → ℕ → Bool → List ℕ → Type 0
RoomFor scheme n tops ls x at writing before =
    writing ≡ true → (flags : List Bool) → EnteredBy scheme n tops ls x flags
    → at + 2 + length (picked (pick Set n flags tops) n) ≤ length before

-- both of a record as it is drafted
abbrev pub PutDraft : Draft → List ℕ → List ℤ → List ℕ → List ℕ → ℕ → Type 0
PutDraft draft tops ls = PutSet draft.scheme draft.n tops ls draft.x.0 draft.at draft.writing

abbrev pub RoomForDraft : Draft → List ℕ → List ℤ → List ℕ → Type 0
RoomForDraft draft tops ls = RoomFor draft.scheme draft.n tops ls draft.x.0 draft.at draft.writing
