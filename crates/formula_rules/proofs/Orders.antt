-- Orders under a rule: what 23 says, and what stands behind it where the rule number is 1 or 2.
use Rattle.std.specs.Prelude.{Ok, Err}
use Rattle.terms.specs.Says.{Verdict, accepted}
use Prim.Native.Nat.{ℕ, ◌≤◌, ◌<◌}
use mathlib.Core.Path.{◌≡◌, refl, sym, ap, ◌∙◌, subst}
use mathlib.Core.List.{List, [], ◌∷◌}
use mathlib.Core.Logic.{◌⊎◌, inl, inr, by_cases, ◌≢◌}
use native.Mathlib.Decide.{ℕ_discrete, dec_le}
use native.Mathlib.Omega.{arith}
use lib.ListN.{length, take}
use lib.Seq.{length-take-le}
use Rattle.terms.specs.Refusals.{At0, None, FirstOf, NoneOf, Judged}
use Rattle.terms.proofs.Verdicts.{at0_first, at0_none, accepted_then}
use Rattle.terms.specs.InnerLimits.{joined_entries}
use Rattle.terms.specs.Literals.{variable_of}
use Rattle.formula.specs.Causes.{VariableCount, PrefixLong, ClausesLong, PrefixCause, ClauseCause}
use Rattle.formula.specs.InnerOrders.{prefix_order}
use Rattle.formula.specs.InnerOrders as plain
use Rattle.formula.specs.Lent.{Formula}
use Rattle.formula.specs.InnerLevels.{SoundPrefix}
use Rattle.formula.specs.InnerLookup.{SoundClauses}
use Rattle.formula.specs.Tables.{literal_at}
use Rattle.formula_rules.specs.Joined.{joined_prefix}
use Rattle.formula_rules.specs.Rules.{read_as, JoinedCause, PrefixCauseBy, NoRule, ruled_prefix, check_order}
use Rattle.formula_rules.specs.InnerReading.{ReadsPrefix}
use Rattle.formula_rules.proofs.Accepted.{joined_accepted}

-- rule 1 reads what is lent
pub lent_one : (rule : ℕ) (es : List ℕ) → rule ≡ 1 → read_as rule es ≡ es
unfolding read_as
lent_one rule es is = ap (λ (r : ℕ). read_as r es) is

module _ (rule n : ℕ) (es : List ℕ) (entries : ℕ) where
  -- 23, where the number is neither
  pub no_rule : rule ≢ 1 → rule ≢ 2 → FirstOf (ruled_prefix rule n es entries) 23 0
  no_rule one two = inl (at0_first 23 (one, two))

  -- under rule 1 the order of a prefix alone
  pub rule_one : rule ≡ 1 → (v : Verdict) → Judged (prefix_order n es entries) v → Judged (ruled_prefix rule n es entries) v
  rule_one is v judged =
      subst (λ (r : ℕ). Judged (ruled_prefix r n es entries) v) (sym is)
      (accepted_then (At0 23 (NoRule 1) ∷ []) (prefix_order n es entries) {v = accepted} v refl (at0_none 23 (λ w. w.0 refl), tt) judged)

  -- under rule 2 the order with the causes of a joined prefix
  pub rule_two : rule ≡ 2 → (v : Verdict) → Judged (VariableCount n ∷ At0 2 (PrefixLong es ⊎ ClausesLong entries) ∷ JoinedCause n es ∷ []) v → Judged (ruled_prefix rule n es entries) v
  rule_two is v judged =
      subst (λ (r : ℕ). Judged (ruled_prefix r n es entries) v) (sym is)
      (accepted_then (At0 23 (NoRule 2) ∷ []) (VariableCount n ∷ At0 2 (PrefixLong es ⊎ ClausesLong entries) ∷ JoinedCause n es ∷ []) {v = accepted} v refl (at0_none 23 (λ w. w.1 refl), tt) judged)

  -- A rule other than 1 that accepts the prefix is rule 2, and the limits are kept.
  pub accepted_two : rule ≢ 1 → NoneOf (ruled_prefix rule n es entries) → (rule ≡ 2) × (n ≤ 4096) × (length es ≤ 8192) × (entries ≤ 16384) × None (JoinedCause n es)
  accepted_two other none =
      let is : rule ≡ 2 = by_cases (ℕ_discrete rule 2) (λ q. q) (λ two. absurd (none.0 23 0 (refl, refl, (other, two)))) in
      let few : ¬ (4096 < n) = λ over. none.1.0 1 0 (refl, refl, over) in
      let short : ¬ (8192 < length es) = λ over. none.1.1.0 2 0 (refl, refl, inl over) in
      let small : ¬ (16384 < entries) = λ over. none.1.1.0 2 0 (refl, refl, inr over) in
      (is, omega arith, omega arith, omega arith, subst (λ (r : ℕ). None (PrefixCauseBy r n es)) is none.1.1.1.0)

  -- Then the joined prefix, which stands at the front of a table, is sound.
  pub joined_read : (table : List ℕ) (count : ℕ) → rule ≢ 1 → NoneOf (ruled_prefix rule n es entries) → length table ≡ joined_entries
      → count ≤ length table → take count table ≡ joined_prefix es → ReadsPrefix rule n es entries table (Ok count)
  unfolding read_as
  joined_read table count other none size room written =
      let (is, few, short, small, faultless) = accepted_two other none in
      let read : joined_prefix es ≡ read_as rule es = sym (ap (λ (r : ℕ). read_as r es) is) in
      let fits : length (joined_prefix es) ≤ 8192 = let counted = sym (length-take-le count table room) ∙ ap length written in omega arith in
      let sound : SoundPrefix n (joined_prefix es) = record { few = few; short = fits; faultless = joined_accepted few fits faultless } in
      (none, subst (SoundPrefix n) read sound, inr (room, written ∙ read), tt)

  -- Under rule 1 the lent prefix is sound.
  pub lent_read : (table : List ℕ) → rule ≡ 1 → NoneOf (ruled_prefix rule n es entries) → ReadsPrefix rule n es entries table (Ok 0)
  lent_read table is none =
      let over : ¬ (4096 < n) = λ l. none.1.0 1 0 (refl, refl, l) in
      let long : ¬ (8192 < length es) = λ l. none.1.1.0 2 0 (refl, refl, inl l) in
      let faultless = subst (λ (r : ℕ). None (PrefixCauseBy r n es)) is none.1.1.1.0 in
      let sound : SoundPrefix n es = record { few = omega arith; short = omega arith; faultless = faultless } in
      (none, subst (SoundPrefix n) (sym (lent_one rule es is)) sound, inl is, tt)

-- What is known of a formula that a rule accepts: the limits are kept, and its prefix has no cause under one of the two rules.
module _ (rule : ℕ) (f : Formula) (none : NoneOf (check_order rule f)) where
  pub limits : (f.n ≤ 4096) × (length f.prefix ≤ 8192) × (length f.clauses ≤ 16384)
  limits =
      let a : ¬ (4096 < f.n) = λ over. none.1.0 1 0 (refl, refl, over) in
      let b : ¬ (8192 < length f.prefix) = λ over. none.1.1.0 2 0 (refl, refl, inl over) in
      let d : ¬ (16384 < length f.clauses) = λ over. none.1.1.0 2 0 (refl, refl, inr over) in
      (omega arith, omega arith, omega arith)

  pub by_rule : None (PrefixCause f.n f.prefix) ⊎ None (JoinedCause f.n f.prefix)
  by_rule =
      by_cases (ℕ_discrete rule 1) (λ one. inl (subst (λ (r : ℕ). None (PrefixCauseBy r f.n f.prefix)) one none.1.1.1.0))
      (λ other. inr (accepted_two rule f.n f.prefix (length f.clauses) other (none.0, (none.1.0, (none.1.1.0, (none.1.1.1.0, tt))))).4)

  -- its clauses are sound
  pub clauses_sound : SoundClauses f.clauses
  clauses_sound =
      let (few, _, short) = limits in
      record {
        short = short;
        rows = λ e l.
            by_cases (dec_le (variable_of (literal_at f.clauses e)) f.n) (λ low. omega arith)
            (λ over. absurd (none.1.1.1.1.0 10 e (ClauseCause.outside refl l (λ z. let q = ap variable_of z in omega arith) (omega arith))));
      }

-- What check accepts without a rule it accepts under rule 1.
pub rule_one_accepts : (f : Formula) → NoneOf (plain.check_order f.n f.prefix f.clauses) → NoneOf (check_order 1 f)
rule_one_accepts f none = (at0_none 23 (λ w. w.0 refl), none)
