-- A fault is known by its number in the table of refusals, and a refusal by its number and its place.
use Prim.Native.Nat.{ℕ, ◌-◌}
use mathlib.Core.Path.{◌≡◌, refl, sym, ap, ◌∙◌}
use mathlib.Core.List.{List, [], ◌∷◌}
use mathlib.Core.Logic.{◌≢◌}
use native.Mathlib.Omega.{arith}
use lib.ListN.{get_or}
use Rattle.terms.specs.declared.Fault.{Fault}
use Rattle.terms.specs.declared.Fault.TheVariants.{TooManyVariables, TooManyEntries, UnclosedBlock, NoMark, SameMark, TooManyBlocks, ForeignVariable}
use Rattle.terms.specs.declared.Fault.TheVariants.{NamedBefore, EmptyBlock, ForeignLiteral, UnclosedClause, MalformedForest, NotAskable, TooLittleRoom}
use Rattle.terms.specs.declared.Fault.TheVariants.{TextTooLong, WrongLine, WrongClauseCount, WrongTally, WrongRecord, WrongOrder, WrongSum}
use Rattle.terms.specs.declared.Fault.TheVariants.{WrongContents, NoSuchRule, WrongPath, MisplacedExistential, MisplacedUniversal, TooManyForPaths}
use Rattle.terms.specs.declared.Refusal.{Refusal}
use Rattle.terms.specs.Says.{fault_number}

-- the faults in the order of their numbers, and the one with a number
abbrev faults : List Fault
faults = TooManyVariables ∷ TooManyEntries ∷ UnclosedBlock ∷ NoMark ∷ SameMark ∷ TooManyBlocks ∷ ForeignVariable ∷ NamedBefore ∷ EmptyBlock
    ∷ ForeignLiteral ∷ UnclosedClause ∷ MalformedForest ∷ NotAskable ∷ TooLittleRoom ∷ TextTooLong ∷ WrongLine ∷ WrongClauseCount ∷ WrongTally
    ∷ WrongRecord ∷ WrongOrder ∷ WrongSum ∷ WrongContents ∷ NoSuchRule ∷ WrongPath ∷ MisplacedExistential ∷ MisplacedUniversal ∷ TooManyForPaths ∷ []

abbrev pub fault_of : ℕ → Fault
fault_of number = get_or faults (number - 1) TooManyVariables

pub fault_back : (f : Fault) → fault_of (fault_number f) ≡ f
fault_back TooManyVariables = refl
fault_back TooManyEntries = refl
fault_back UnclosedBlock = refl
fault_back NoMark = refl
fault_back SameMark = refl
fault_back TooManyBlocks = refl
fault_back ForeignVariable = refl
fault_back NamedBefore = refl
fault_back EmptyBlock = refl
fault_back ForeignLiteral = refl
fault_back UnclosedClause = refl
fault_back MalformedForest = refl
fault_back NotAskable = refl
fault_back TooLittleRoom = refl
fault_back TextTooLong = refl
fault_back WrongLine = refl
fault_back WrongClauseCount = refl
fault_back WrongTally = refl
fault_back WrongRecord = refl
fault_back WrongOrder = refl
fault_back WrongSum = refl
fault_back WrongContents = refl
fault_back NoSuchRule = refl
fault_back WrongPath = refl
fault_back MisplacedExistential = refl
fault_back MisplacedUniversal = refl
fault_back TooManyForPaths = refl

pub one_fault : (a b : Fault) → fault_number a ≡ fault_number b → a ≡ b
one_fault a b q = sym (fault_back a) ∙ ap fault_of q ∙ fault_back b

pub one_refusal : (r r' : Refusal) → fault_number r.0 ≡ fault_number r'.0 → r.1 ≡ r'.1 → r ≡ r'
one_refusal r r' q p = let fault = one_fault r.0 r'.0 q in λ i. record { 0 = fault i; 1 = p i }

-- No fault has the number 0.
pub some_number : (f : Fault) → fault_number f ≢ 0
some_number TooManyVariables q = omega arith
some_number TooManyEntries q = omega arith
some_number UnclosedBlock q = omega arith
some_number NoMark q = omega arith
some_number SameMark q = omega arith
some_number TooManyBlocks q = omega arith
some_number ForeignVariable q = omega arith
some_number NamedBefore q = omega arith
some_number EmptyBlock q = omega arith
some_number ForeignLiteral q = omega arith
some_number UnclosedClause q = omega arith
some_number MalformedForest q = omega arith
some_number NotAskable q = omega arith
some_number TooLittleRoom q = omega arith
some_number TextTooLong q = omega arith
some_number WrongLine q = omega arith
some_number WrongClauseCount q = omega arith
some_number WrongTally q = omega arith
some_number WrongRecord q = omega arith
some_number WrongOrder q = omega arith
some_number WrongSum q = omega arith
some_number WrongContents q = omega arith
some_number NoSuchRule q = omega arith
some_number WrongPath q = omega arith
some_number MisplacedExistential q = omega arith
some_number MisplacedUniversal q = omega arith
some_number TooManyForPaths q = omega arith
