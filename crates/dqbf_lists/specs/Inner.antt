-- What the inner functions promise. What a reader must believe of the calls is in Lists, Causes and Answers.
use Rattle.std.specs.Prelude.{ℕ, ◌+◌, ◌≤◌, ◌<◌, ◌≡◌, Bool, true, false, List, [], ◌∷◌, ◌++◌, ◌≢◌, length, get_or, set}
use Rattle.std.specs.Borrow.{Bor}
use Rattle.terms.specs.InnerLimits.{variable_rows}
use Rattle.terms.specs.Refusals.{Causes, At0, FirstOf}
use Rattle.terms.specs.Says.{Answer}
use Rattle.formula.specs.Causes.{VariableCount, ClauseCause}
use Rattle.formula.specs.Lent.{Formula}
use Rattle.formula.specs.InnerLookup.{SoundClauses}
use Rattle.formula.specs.Tables.{at, MarkAt, VariableAt}
use Rattle.forest_tables.specs.InnerTabled.{universal_in}
use Rattle.formula_rules.specs.InnerReading.{Reads, Takes}
use Rattle.formula_rules.specs.Rules.{RuleCause, PrefixCauseBy}
use Rattle.dqbf_lists.specs.Lists.{list_entries, OneList, Bound}
use Rattle.dqbf_lists.specs.Causes.{ListedLengthCause}

-- what is looked for before the lists, where so many entries of them are lent: 23, 1, 2, prefix from the left; and then clause literals from the left
abbrev pub listed_prefix : ℕ → Formula → ℕ → List Causes
listed_prefix rule f entries =
    RuleCause rule ∷ VariableCount f.n ∷ ListedLengthCause f entries ∷ PrefixCauseBy rule f.n f.prefix ∷ []

abbrev pub listed_formula : ℕ → Formula → ℕ → List Causes
listed_formula rule f entries = listed_prefix rule f entries ++ (ClauseCause f.n f.clauses ∷ [])

-- What a formula is read as beside lists of so many entries: it is refused, or it is sound as the rule reads it, and the lists are not too long.
abbrev pub ReadsListed : ℕ → Formula → ℕ → List ℕ → Answer ℕ → Type 0
ReadsListed rule f entries =
    Reads (listed_formula rule f entries) (SoundClauses f.clauses × (entries ≤ list_entries)) rule f.n f.prefix

-- and so where the prefix is given as the rule reads it
abbrev pub TakesListed : ℕ → Formula → ℕ → Answer (Bor (List ℕ)) → Type 0
TakesListed rule f entries =
    Takes (listed_formula rule f entries) (SoundClauses f.clauses × (entries ≤ list_entries)) rule f.n f.prefix

-- the first number of a call whose lists are too long: 23, 1, and else 2
abbrev pub LongRefused : ℕ → ℕ → ℕ → Type 0
LongRefused rule n number = FirstOf (RuleCause rule ∷ VariableCount n ∷ At0 2 (Unit {0}) ∷ []) number 0

-- y has a list of its own, and it has x, by places: for a table that does not end inside a list it is what Lists says (proofs/Listed)
pub record GivenAt (ds : List ℕ) (x y : ℕ) : Type 0 where
  pub begin : ℕ
  pub place : ℕ
  pub for_y : MarkAt ds begin × (at ds begin ≡ y)
  pub has_x : VariableAt ds place × (at ds place ≡ x)
  pub one : OneList ds begin place

-- the flags tell which variables are in a block
pub record Places (es : List ℕ) (placed : List Bool) : Type 0 where
  pub size : length placed ≡ variable_rows
  pub each : (v : ℕ) → get_or placed v false ≡ true → Bound es v
  pub all : (v : ℕ) → Bound es v → get_or placed v false ≡ true

-- y may open a list: it is a variable of the formula that is not placed yet
abbrev pub MayOpen : ℕ → List Bool → ℕ → Type 0
MayOpen n placed y = (y ≢ 0) × (y ≤ n) × (get_or placed y false ≡ false)

-- x may follow in the list whose first universal stands at `start`: it is universal, and the place behind its last entry is not in that list
abbrev pub MayFollow : ℕ → List Bool → List ℕ → ℕ → ℕ → Type 0
MayFollow n universals last start x = (universal_in n universals x ≡ true) × (get_or last x 0 ≤ start)

-- From entry `start` up to `end` stand universals of one list, and nothing is wrong with them: the table has the place behind each afterwards.
pub data PassedTo (n : ℕ) (universals : List Bool) (ds : List ℕ) (start : ℕ) (last : List ℕ) : ℕ → List ℕ → Type 0 where
  none_passed : PassedTo n universals ds start last start last
  one_passed : (e : ℕ) {seen : List ℕ} → PassedTo n universals ds start last e seen → e < length ds → MayFollow n universals seen start (at ds e)
      → PassedTo n universals ds start last (e + 1) (set seen (at ds e) (e + 1))

-- the universals are passed up to `end`, where the table of lists ends, or an entry stands that may not follow
pub record Passes (n : ℕ) (universals : List Bool) (ds : List ℕ) (start : ℕ) (last last' : List ℕ) (end : ℕ) : Type 0 where
  pub from : start ≤ end
  pub within : end ≤ length ds
  pub passed : PassedTo n universals ds start last end last'
  pub stops : end < length ds → MayFollow n universals last' start (at ds end) → ⊥
