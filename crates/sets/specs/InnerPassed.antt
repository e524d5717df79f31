-- Inner: what the functions of the call for all sets count and write.
use Rattle.std.specs.Prelude.{Ok, Err}
use Rattle.terms.specs.Says.{Answer, fault_number}
use Rattle.std.specs.Prelude.{ℕ, ◌≤◌, ◌<◌, ◌≡◌, Bool, true, false, cond, List, [], ℤ, length}
use Rattle.std.proofs.lemmas.List.Edits.{sets}
use Rattle.formula.specs.InnerLevels.{SoundPrefix, Levelled}
use Rattle.formula.specs.Lent.{formula_of}
use Rattle.forest_tables.specs.Formula.{universal}
use Rattle.forest_tables.specs.Lent.{rows}
use Rattle.terms.specs.declared.Scheme.{Scheme}
use Rattle.forest.specs.Answers.{MembersBy}
use Rattle.forest_tables.specs.InnerCounting.{FormedBy}
use Rattle.sets.specs.Sets.{Records}
use Rattle.sets_occurrences.specs.InnerThreads.{Threaded, Closed}

-- the sets of the universals 1 to m by a scheme
abbrev pub SetsUpto : Scheme → ℕ → List ℕ → List ℤ → List ℕ → List ℕ → ℕ → List ℕ → Type 0
SetsUpto scheme n es ls classes parents = Records (universal n es) (MembersBy scheme (formula_of n es ls) (rows classes parents []))

-- what the passes over all universals stand on: an accepted prefix and its level table, well-formed rows, closed clauses, and universals that are tied to them
pub record Ready (n : ℕ) (es levels : List ℕ) (universals : List Bool) (ls : List ℤ) (classes parents first next : List ℕ) : Type 0 where
  pub sound : SoundPrefix n es
  pub table : Levelled es levels universals
  pub formed : FormedBy n es classes parents
  pub closed : Closed ls
  pub heads : length first ≡ 4097
  pub links : length ls ≤ length next
  pub threaded : Threaded ls universals first next (length ls)

-- R m is the list of what comes up to m: there is room for each up to n
abbrev pub RoomUpto : (ℕ → List ℕ → Type 0) → ℕ → ℕ → Type 0
RoomUpto R n room = (m : ℕ) (list : List ℕ) → m ≤ n → R m list → length list ≤ room

-- whether there is room for the list
abbrev pub TellsRoom : Bool → (ℕ → List ℕ → Type 0) → ℕ → ℕ → Type 0
TellsRoom true R n room = RoomUpto R n room
TellsRoom false R n room = (list : List ℕ) × R n list × (room < length list)

-- the list is written, or only counted
abbrev pub PutAll : (List ℕ → Type 0) → Bool → List ℕ → List ℕ → ℕ → Type 0
PutAll R writing before after end = (list : List ℕ) × R list × (end ≡ length list) × (after ≡ cond writing (sets before 0 list) before)

-- the list is written, or there is too little room for it
abbrev pub Fills : (List ℕ → Type 0) → List ℕ → List ℕ → Answer ℕ → Type 0
Fills R before after (Ok count) = (list : List ℕ) × R list × (count ≡ length list) × (length list ≤ length before) × (after ≡ sets before 0 list)
Fills R before after (Err refusal) = (fault_number refusal.0 ≡ 14) × (refusal.1 ≡ 0) × ((list : List ℕ) × R list × (length before < length list)) × (after ≡ before)
