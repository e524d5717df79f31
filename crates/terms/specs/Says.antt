-- What each answer of a call says, as the table of refusals numbers it (rule 8.1, rule 18.9): 0 is accepted, with the values that the call gives; a refusal is its
-- number and its place, and gives no value.
use Rattle.std.specs.Prelude.{ℕ, Bool, Option, None, Some, Result, Ok, Err}
use Rattle.terms.specs.declared.Fault.{Fault}
use Rattle.terms.specs.declared.Fault.TheVariants.{TooManyVariables, TooManyEntries, UnclosedBlock, NoMark, SameMark, TooManyBlocks, ForeignVariable}
use Rattle.terms.specs.declared.Fault.TheVariants.{NamedBefore, EmptyBlock, ForeignLiteral, UnclosedClause, MalformedForest, NotAskable, TooLittleRoom}
use Rattle.terms.specs.declared.Fault.TheVariants.{TextTooLong, WrongLine, WrongClauseCount, WrongTally, WrongRecord, WrongOrder, WrongSum}
use Rattle.terms.specs.declared.Fault.TheVariants.{WrongContents, NoSuchRule, WrongPath, MisplacedExistential, MisplacedUniversal, TooManyForPaths}
use Rattle.terms.specs.declared.Refusal.{Refusal}
use Rattle.terms.specs.declared.Point.{Point}
use Rattle.terms.specs.declared.Counts.{Counts}
use Rattle.terms.specs.declared.ListedCounts.{ListedCounts}
use Rattle.terms.specs.declared.Loaded.{Loaded}
use Rattle.terms.specs.declared.Tally.{Tally}
use Rattle.terms.specs.declared.Tallied.{Tallied}

-- Accepted, with values; or refused, with a number and a place.
pub data Said (Values : Type 0) : Type 0 where
  gives : Values → Said Values
  refuses : ℕ → ℕ → Said Values

-- the number: 0 where it is accepted
abbrev pub number_of : {Values : Type 0} → Said Values → ℕ
number_of (gives values) = 0
number_of (refuses number place) = number

-- the same with its values put otherwise
abbrev pub said_by : {A B : Type 0} → (A → B) → Said A → Said B
said_by f (gives values) = gives (f values)
said_by f (refuses number place) = refuses number place

-- the number of each fault
abbrev pub fault_number : Fault → ℕ
fault_number TooManyVariables = 1
fault_number TooManyEntries = 2
fault_number UnclosedBlock = 3
fault_number NoMark = 4
fault_number SameMark = 5
fault_number TooManyBlocks = 6
fault_number ForeignVariable = 7
fault_number NamedBefore = 8
fault_number EmptyBlock = 9
fault_number ForeignLiteral = 10
fault_number UnclosedClause = 11
fault_number MalformedForest = 12
fault_number NotAskable = 13
fault_number TooLittleRoom = 14
fault_number TextTooLong = 15
fault_number WrongLine = 16
fault_number WrongClauseCount = 17
fault_number WrongTally = 18
fault_number WrongRecord = 19
fault_number WrongOrder = 20
fault_number WrongSum = 21
fault_number WrongContents = 22
fault_number NoSuchRule = 23
fault_number WrongPath = 24
fault_number MisplacedExistential = 25
fault_number MisplacedUniversal = 26
fault_number TooManyForPaths = 27

-- the number of a fault that may be there: 0 where none is
abbrev pub number_told : Option Fault → ℕ
number_told None = 0
number_told (Some fault) = fault_number fault

-- what a call answers: its values, or its refusal
abbrev pub Answer : Type 0 → Type 0
Answer Values = Result Values Refusal

abbrev pub refused : {Values : Type 0} → Fault → ℕ → Answer Values
refused fault place = Err (record { 0 = fault; 1 = place })

-- what the answer says
abbrev pub said : {Values : Type 0} → Answer Values → Said Values
said (Ok values) = gives values
said (Err refusal) = refuses (fault_number refusal.0) refusal.1

-- check, and the path check: no value
abbrev pub Verdict : Type 0
Verdict = Answer (Unit {0})

abbrev pub accepted : Verdict
accepted = Ok tt

-- an entry point: the class, and the number of rises
abbrev pub entry_said : Answer Point → Said (ℕ × ℕ)
entry_said answer = said_by (λ (point : Point). (point.class.0, point.rises)) (said answer)

-- build and add: the count of rows, and the tally
abbrev pub tallied_said : Tallied → Said (ℕ × Tally)
tallied_said told = said_by (λ (count : ℕ). (count, told.tally)) (said told.answer)

-- a text that was read, or a formula with a universal expanded: n, and the counts of the entries of the prefix and of the clauses; and of the lists, where it
-- may have them
abbrev pub counts_said : Answer Counts → Said (ℕ × ℕ × ℕ)
counts_said answer = said_by (λ (counts : Counts). (counts.n, counts.prefix, counts.clauses)) (said answer)

abbrev pub listed_said : Answer ListedCounts → Said (ℕ × ℕ × ℕ × ℕ)
listed_said answer = said_by (λ (counts : ListedCounts). (counts.n, counts.prefix, counts.clauses, counts.lists)) (said answer)

-- a file that was read: so of its formula, and whether sets were there
abbrev pub loaded_said : Answer Loaded → Said (ℕ × ℕ × ℕ × Bool)
loaded_said answer = said_by (λ (held : Loaded). (held.n, held.prefix, held.clauses, held.sets)) (said answer)
