-- Inner: what functions are asked for, by a scheme and by the lent rows.
use Rattle.std.specs.Prelude.{Ok, Err}
use Rattle.terms.specs.Says.{Verdict}
use Rattle.std.specs.Prelude.{ℕ, ◌≡◌, Bool, List, length}
use Rattle.std.proofs.lemmas.List.Edits.{sets}
use Rattle.terms.specs.Listed.{Listed}
use Rattle.terms.specs.declared.Scheme.{Scheme}
use Rattle.forest_members.specs.declared.Asked.{Asked}
use Rattle.forest_members.specs.declared.Asked.TheVariants.{Points, Set}
use Rattle.formula.specs.Lent.{Formula}
use Rattle.forest_climb.specs.InnerSearch.{EntryRows}
use Rattle.forest_entries.specs.InnerFlags.{Entering}
use Rattle.forest_tables.specs.Lent.{Rows, variables_of, forest_of}
use Rattle.forest.specs.Answers.{EntriesBy, MembersBy}

-- the entry points of x, or its set
abbrev pub Wanted : Scheme → Asked → Formula → Rows → ℕ → ℕ → Type 0
Wanted scheme Points f r x = EntriesBy scheme f r x
Wanted scheme Set f r x = MembersBy scheme f r x

-- where a call is not refused: the entry points of x by the scheme are flagged, and the rows stand for the entries of all variables
abbrev pub Enters : Scheme → Formula → Rows → ℕ → List ℕ → List Bool → Verdict → Type 0
Enters scheme f r x tops flags (Ok _) =
    (entries : List ℕ) × EntryRows (variables_of f) (forest_of f r) x entries × Entering f.n (EntriesBy scheme f r x) entries tops flags
Enters scheme f r x tops flags (Err refusal) = Unit {0}

-- the numbers of which P holds are written into the front of a table, ascending, and counted
abbrev pub Lists : (ℕ → Type 0) → List ℕ → List ℕ → ℕ → Type 0
Lists P before after count = (list : List ℕ) × Listed P list × (count ≡ length list) × (after ≡ sets before 0 list)
