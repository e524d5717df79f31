-- What calls promise that give more than a verdict, by what their answers say (rule 18.9), and what a call leaves in a table that it fills (rule 7.5).
use Rattle.std.specs.Prelude.{ℕ, ◌<◌, ◌≡◌, List, length}
use Rattle.terms.specs.declared.Point.{Point}
use Rattle.terms.specs.Listed.{Listed}
use Rattle.terms.specs.Overwritten.{overwritten}
use Rattle.terms.specs.Says.{Said, gives, refuses, said_by, Answer, said, entry_said}
use Rattle.terms.specs.Refusals.{Causes, Judges}

-- What holds once something is said: `given` of the values, where it is accepted, and `kept` where it is refused.
abbrev pub Then : {Values : Type 0} → (Values → Type 0) → Type 0 → Said Values → Type 0
Then given kept (gives values) = given values
Then given kept (refuses number place) = kept

-- The shape of every promise: what is said is right by the order of the call, and then holds what is given or kept.
abbrev pub Settles : {Values : Type 0} → List Causes → (Values → Type 0) → Type 0 → Said Values → Type 0
Settles order given kept said = Judges order said × Then given kept said

-- what is said without its values: accepted, or the number and the place
abbrev pub verdict_by : {Values : Type 0} → Said Values → Said (Unit {0})
verdict_by {Values} = said_by (λ (values : Values). tt)

-- a call that answers with an entry point: P holds of the class and the number of rises
abbrev pub Answered : List Causes → (ℕ → ℕ → Type 0) → Answer Point → Type 0
Answered order P answer = Settles order (λ (point : ℕ × ℕ). P point.0 point.1) (Unit {0}) (entry_said answer)

-- a call that answers with a number, of which P holds
abbrev pub AnsweredNumber : List Causes → (ℕ → Type 0) → Answer ℕ → Type 0
AnsweredNumber order P answer = Settles order P (Unit {0}) (said answer)

-- a list of which L holds stands in front in a lent table, with nothing past it changed, and the count is its length
abbrev pub InFront : (List ℕ → Type 0) → List ℕ → List ℕ → ℕ → Type 0
InFront L before after count = (list : List ℕ) × L list × (count ≡ length list) × (after ≡ overwritten list before)

-- A call that writes the list of which L holds, and what it leaves in the lent table: accepted, it gives the count of all entries and the list stands in
-- front, with nothing past it changed; refused, nothing is changed at all.
abbrev pub Filling : List Causes → (List ℕ → Type 0) → List ℕ → List ℕ → Answer ℕ → Type 0
Filling order L before after answer = Settles order (InFront L before after) (after ≡ before) (said answer)

-- so for a call that lists the numbers of which P holds
abbrev pub Listing : List Causes → (ℕ → Type 0) → List ℕ → List ℕ → Answer ℕ → Type 0
Listing order P = Filling order (Listed P)

-- 14 of rule 8.1: the list needs more room than the lent table has
abbrev pub TooLong : (ℕ → Type 0) → List ℕ → Type 0
TooLong P before = (list : List ℕ) × Listed P list × (length before < length list)
