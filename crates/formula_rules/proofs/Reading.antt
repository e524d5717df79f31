-- What a call has once its prefix, or its formula, is accepted by the rule, and how its promise follows from what it does behind that.
use Rattle.std.specs.Prelude.{Ok, Err}
use denote.Ref.{Bor}
use Rattle.terms.specs.declared.Refusal.{Refusal}
use Rattle.terms.specs.Says.{Answer, Verdict, said, fault_number}
use Prim.Native.Nat.{ℕ, ◌-◌, ◌≤◌}
use mathlib.Core.Path.{◌≡◌, refl, sym, ap, ◌∙◌, subst}
use mathlib.Core.List.{List, [], ◌∷◌, ◌++◌}
use mathlib.Core.Logic.{inl, inr}
use native.Mathlib.Omega.{arith}
use lib.ListN.{length, take, drop}
use Rattle.terms.specs.Refusals.{Causes, FirstOf, NoneOf, Judged}
use Rattle.terms.proofs.Verdicts.{first_of_more, judges_later}
use Rattle.terms.proofs.Orders.{Carries, behind_none}
use Rattle.formula.specs.Causes.{ClauseCause}
use Rattle.formula.specs.Lent.{Formula}
use Rattle.formula.specs.InnerLevels.{SoundPrefix}
use Rattle.formula_rules.specs.Rules.{read_as, ruled_prefix, check_order}
use Rattle.formula_rules.specs.InnerReading.{AtHand, Reads, Takes, ReadsPrefix, ReadsFormula}
use Rattle.formula_rules.proofs.Orders.{clauses_sound}

-- Under any rule but 1 what is at hand is the front of the table.
pub front_read : (rule : ℕ) (es table : List ℕ) (count : ℕ) → ¬ (rule ≡ 1) → AtHand rule es table count
    → (count ≤ length table) × (take (count - 0) (drop 0 table) ≡ read_as rule es)
front_read rule es table count other (inl one) = absurd (other one)
front_read rule es table count other (inr (room, is)) =
    let all : count - 0 ≡ count = omega arith in
    (room, ap (λ (k : ℕ). take k table) all ∙ is)

-- What a call has whose prefix or formula is refused, or accepted.
module _ (order : List Causes) (more : Type 0) (rule n : ℕ) (es : List ℕ) where
  -- a refusal is that of the call, whatever it looks at later
  pub refused_read : (later : List Causes) {r : Refusal} {v : Answer (Bor (List ℕ))} → v ≡ Err r → Takes order more rule n es v
      → FirstOf (order ++ later) (fault_number r.0) r.1
  refused_read later is reads = first_of_more order later _ _ (subst (Takes order more rule n es) is reads)

  module _ {read : Bor (List ℕ)} {v : Answer (Bor (List ℕ))} (is : v ≡ Ok read) (reads : Takes order more rule n es v) where
    given : Takes order more rule n es (Ok read)
    given = subst (Takes order more rule n es) is reads

    pub none_read : NoneOf order
    none_read = given.0

    -- what is read is sound
    pub sound_read : SoundPrefix n read.now
    sound_read = given.1

    -- and is the prefix as the rule reads it
    pub same_read : read.now ≡ read_as rule es
    same_read = given.2

    pub more_read : more
    more_read = given.3

    -- What the call promises by its later causes, of the prefix that it was given, it promises by its whole order, of the prefix as the rule reads it.
    pub behind_read : (S : List Causes → List ℕ → Type 0)
        → ((order order' : List Causes) (read : List ℕ) → Carries order order' → S order read → S order' read)
        → (later : List ℕ → List Causes) → S (later read.now) read.now → S (order ++ later (read_as rule es)) (read_as rule es)
    behind_read S carry later said =
        carry (later (read_as rule es)) (order ++ later (read_as rule es)) (read_as rule es) (behind_none order (later (read_as rule es)) none_read)
        (subst (λ (r : List ℕ). S (later r) r) same_read said)

-- A prefix and its clauses make a formula.
module _ (rule : ℕ) (f : Formula) (table : List ℕ) where
  abbrev front : List Causes
  front = ruled_prefix rule f.n f.prefix (length f.clauses)

  pub prefix_refused : (r : Refusal) → ReadsPrefix rule f.n f.prefix (length f.clauses) table (Err r) → ReadsFormula rule f table (Err r)
  prefix_refused r first = first_of_more front (ClauseCause f.n f.clauses ∷ []) _ _ first

  module _ {count : ℕ} (reads : ReadsPrefix rule f.n f.prefix (length f.clauses) table (Ok count)) where
    pub judged_behind : (w : Verdict) → Judged (ClauseCause f.n f.clauses ∷ []) w → Judged (check_order rule f) w
    judged_behind w clauses = judges_later front (ClauseCause f.n f.clauses ∷ []) (said w) reads.0 clauses

    pub formula_read : NoneOf (ClauseCause f.n f.clauses ∷ []) → ReadsFormula rule f table (Ok count)
    formula_read clauses = let none = judged_behind (Ok tt) clauses in (none, reads.1, reads.2, clauses_sound rule f none)
