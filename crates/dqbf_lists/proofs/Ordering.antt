-- Orders of calls that take lists: where the lists are not too long, what comes before them is what check looks at; and else 23, 1 or 2 is first.
use Prim.Native.Nat.{ℕ, ◌≤◌}
use mathlib.Core.Path.{refl}
use mathlib.Core.List.{List, [], ◌∷◌, ◌++◌}
use mathlib.Core.Logic.{◌⊎◌, inl, inr, ⊎_elim, by_cases}
use native.Mathlib.Decide.{dec_le}
use native.Mathlib.Omega.{arith}
use lib.ListN.{length}
use Rattle.std.specs.Prelude.{Ok, Err}
use Rattle.terms.specs.Says.{Answer, fault_number}
use denote.Ref.{Bor}
use Rattle.terms.specs.Refusals.{Causes, At0, FirstOf, NoneOf}
use Rattle.terms.proofs.Orders.{Carries, same_order, one_more, behind}
use Rattle.terms.proofs.Verdicts.{first_of_more}
use Rattle.formula.specs.Causes.{VariableCount, PrefixLong, ClausesLong, ClauseCause}
use Rattle.formula.specs.Lent.{Formula}
use Rattle.formula_rules.specs.InnerReading.{ReadsFormula, TakesFormula}
use Rattle.formula_rules.specs.Rules.{PrefixCauseBy, NoRule, ruled_prefix}
use Rattle.dqbf_lists.specs.Lists.{list_entries}
use Rattle.dqbf_lists.specs.Causes.{ListsLong}
use Rattle.dqbf_lists.specs.Inner.{listed_prefix, listed_formula}
use Rattle.dqbf_lists.specs.Inner.{ReadsListed, TakesListed, LongRefused}

module _ (rule : ℕ) (f : Formula) (entries : ℕ) where
  -- 23 and 1, which both orders have first, and what each has as 2
  abbrev front : List Causes
  front = At0 23 (NoRule rule) ∷ VariableCount f.n ∷ []

  abbrev Long : Type 0
  Long = PrefixLong f.prefix ⊎ ClausesLong (length f.clauses)

  abbrev Longer : Type 0
  Longer = PrefixLong f.prefix ⊎ (ClausesLong (length f.clauses) ⊎ ListsLong entries)

  longer : Long → Longer
  longer = ⊎_elim inl (λ long. inr (inl long))

  -- Where nothing stands against what is looked at first, the lists are short.
  pub short_lists : (later : List Causes) → NoneOf (listed_prefix rule f entries ++ later) → entries ≤ list_entries
  short_lists later none =
      by_cases (dec_le entries list_entries) (λ l. l) (λ over. absurd (none.1.1.0 2 0 (refl, refl, inr (inr (let l : ListsLong entries = omega arith in l)))))

  -- Lists that are too long are refused before the prefix is judged.
  pub long_refused : ListsLong entries → (number : ℕ) → LongRefused rule f.n number → FirstOf (listed_formula rule f entries) number 0
  long_refused over number first =
      let order = behind front (one_more (At0 2 (Unit {0})) (At0 2 Longer) (λ k p c. (c.0, c.1, inr (inr over))) (λ k p c. (c.0, c.1, tt)) (same_order [])) in
      first_of_more (front ++ (At0 2 Longer ∷ [])) (PrefixCauseBy rule f.n f.prefix ∷ ClauseCause f.n f.clauses ∷ []) number 0 (order.first number 0 first)

  module _ (short : entries ≤ list_entries) where
    no_longer : Longer → Long
    no_longer = ⊎_elim inl (⊎_elim inr (λ over. absurd (omega arith)))

    -- so where they are short one order says what the other says
    pub to_listed : (later : List Causes)
        → Carries (ruled_prefix rule f.n f.prefix (length f.clauses) ++ later) (listed_prefix rule f entries ++ later)
    to_listed later =
        behind front (one_more (At0 2 Long) (At0 2 Longer) (λ k p c. (c.0, c.1, longer c.2)) (λ k p c. (c.0, c.1, no_longer c.2))
        (same_order (PrefixCauseBy rule f.n f.prefix ∷ later)))

    pub from_listed : (later : List Causes)
        → Carries (listed_prefix rule f entries ++ later) (ruled_prefix rule f.n f.prefix (length f.clauses) ++ later)
    from_listed later =
        behind front (one_more (At0 2 Longer) (At0 2 Long) (λ k p c. (c.0, c.1, no_longer c.2)) (λ k p c. (c.0, c.1, longer c.2))
        (same_order (PrefixCauseBy rule f.n f.prefix ∷ later)))

    -- and a formula that is read is read beside them, also where its prefix is given
    pub read_beside : (table : List ℕ) (v : Answer ℕ) → ReadsFormula rule f table v → ReadsListed rule f entries table v
    read_beside table (Ok count) (none, sound, hand, clauses) =
        ((to_listed (ClauseCause f.n f.clauses ∷ [])).none none, sound, hand, (clauses, short))
    read_beside table (Err refusal) first = (to_listed (ClauseCause f.n f.clauses ∷ [])).first (fault_number refusal.0) refusal.1 first

    pub taken_beside : (v : Answer (Bor (List ℕ))) → TakesFormula rule f v → TakesListed rule f entries v
    taken_beside (Ok read) (none, sound, same, clauses) =
        ((to_listed (ClauseCause f.n f.clauses ∷ [])).none none, sound, same, (clauses, short))
    taken_beside (Err refusal) first = (to_listed (ClauseCause f.n f.clauses ∷ [])).first (fault_number refusal.0) refusal.1 first
