-- Inner: members by the entry points of either scheme.
use Rattle.std.specs.Prelude.{ℕ, Bool}
use Rattle.forest_theory.specs.Reach.{Variables}
use Rattle.forest_theory.specs.Tables.{Table, EntryPointOf, StrictEntryOf, MemberBy}

-- y is in the set of x by the tables as lent: a member of a class at or below an entry point of x; and in its strict set likewise.
abbrev pub Member : Variables → Table → (ℕ → ℕ → Type 0) → ℕ → ℕ → Type 0
Member X W S x = MemberBy X W (EntryPointOf X W S x)

abbrev pub StrictMember : Variables → Table → (Bool → ℕ → ℕ → Type 0) → ℕ → ℕ → Type 0
StrictMember X W S x = MemberBy X W (StrictEntryOf X W S x)
