-- Inner: what functions promise that judge a prefix, or a formula, by a rule and give the prefix as the rule reads it.
use Rattle.std.specs.Prelude.{Ok, Err}
use Rattle.terms.specs.Says.{Answer, fault_number}
use Rattle.std.specs.Prelude.{ℕ, ◌≤◌, ◌≡◌, List, ◌⊎◌, length, take}
use Rattle.std.specs.Borrow.{Bor}
use Rattle.terms.specs.Refusals.{Causes, FirstOf, NoneOf}
use Rattle.formula.specs.Lent.{Formula}
use Rattle.formula.specs.InnerLevels.{SoundPrefix}
use Rattle.formula.specs.InnerLookup.{SoundClauses}
use Rattle.formula_rules.specs.Rules.{read_as, ruled_prefix, check_order}

-- the prefix as the rule reads it is at hand: it is the lent one, or stands at the front of a table
abbrev pub AtHand : ℕ → List ℕ → List ℕ → ℕ → Type 0
AtHand rule es table count = (rule ≡ 1) ⊎ ((count ≤ length table) × (take count table ≡ read_as rule es))

-- What is lent is refused, or the prefix is sound as the rule reads it, and at hand; and then `more` holds.
abbrev pub Reads : List Causes → Type 0 → ℕ → ℕ → List ℕ → List ℕ → Answer ℕ → Type 0
Reads order more rule n es table (Ok count) = NoneOf order × SoundPrefix n (read_as rule es) × AtHand rule es table count × more
Reads order more rule n es table (Err refusal) = FirstOf order (fault_number refusal.0) refusal.1

-- so of a prefix, beside which so many clause entries are lent
abbrev pub ReadsPrefix : ℕ → ℕ → List ℕ → ℕ → List ℕ → Answer ℕ → Type 0
ReadsPrefix rule n es entries = Reads (ruled_prefix rule n es entries) (Unit {0}) rule n es

-- and of a formula, whose clauses are sound too
abbrev pub ReadsFormula : ℕ → Formula → List ℕ → Answer ℕ → Type 0
ReadsFormula rule f = Reads (check_order rule f) (SoundClauses f.clauses) rule f.n f.prefix

-- The prefix is given as the rule reads it, in a slice of its own.
abbrev pub Takes : List Causes → Type 0 → ℕ → ℕ → List ℕ → Answer (Bor (List ℕ)) → Type 0
Takes order more rule n es (Ok read) = NoneOf order × SoundPrefix n read.now × (read.now ≡ read_as rule es) × more
Takes order more rule n es (Err refusal) = FirstOf order (fault_number refusal.0) refusal.1

abbrev pub TakesPrefix : ℕ → ℕ → List ℕ → ℕ → Answer (Bor (List ℕ)) → Type 0
TakesPrefix rule n es entries = Takes (ruled_prefix rule n es entries) (Unit {0}) rule n es

abbrev pub TakesFormula : ℕ → Formula → Answer (Bor (List ℕ)) → Type 0
TakesFormula rule f = Takes (check_order rule f) (SoundClauses f.clauses) rule f.n f.prefix
