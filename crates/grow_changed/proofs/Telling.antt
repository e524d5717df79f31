-- From what is accepted to what the passes stand on, from the sizes to what is listed, and from the order of the inner functions to that of the call.
use Prim.Native.Nat.{ℕ, ◌-◌, ◌≤◌}
use mathlib.Core.Path.{◌≡◌, refl, sym, ap, ◌∙◌, subst}
use mathlib.Core.Bool.{Bool, true, false}
use mathlib.Core.List.{List, [], ◌∷◌, ◌++◌}
use mathlib.Core.Logic.Iff
use mathlib.Core.Logic.{◌≢◌, inl, inr, ⊎_elim, ◌↔◌, by_cases}
use native.Mathlib.Decide.{dec_le}
use native.Mathlib.Omega.{arith}
use lib.IntN.{ℤ}
use lib.ListN.{length, get_or, take, drop}
use lib.Seq.{sets}
use Rattle.terms.specs.Limits.{clause_entries}
use Rattle.terms.specs.Listed.{Listed}
use Rattle.terms.specs.Literals.{variable_of}
use Rattle.terms.specs.Refusals.{Causes, None}
use Rattle.terms.specs.declared.Scheme.{Scheme}
use Rattle.terms.proofs.Common.{by_test, clash}
use Rattle.terms.proofs.Orders.{Carries, one_more, behind, same_order}
use Rattle.terms.proofs.Overwritten.{stored_overwritten, overwritten_front}
use Rattle.formula.specs.Causes.{VariableCount, LengthCause, ClauseCause}
use Rattle.formula.specs.InnerLookup.{SoundClauses}
use Rattle.formula.specs.Lent.{Formula, formula_of}
use Rattle.formula.specs.Tables.{literal_at}
use Rattle.formula_rules.specs.Rules.{RuleCause, PrefixCauseBy, ruled_prefix}
use Rattle.forest_theory.specs.Reach.{Variables}
use Rattle.forest_theory.specs.Tables.{row, lent, WellFormed}
use Rattle.forest_theory.proofs.Forest.{same_rows}
use Rattle.forest_tables.specs.Formula.{variables, universal}
use Rattle.forest_tables.specs.Lent.{Rows, rows}
use Rattle.forest_tables.proofs.Agreeing.{universal_within}
use Rattle.forest_members.specs.declared.Asked.TheVariants.{Points}
use Rattle.forest_members.specs.InnerPicked.{pick, picked}
use Rattle.forest_members.proofs.Picked.{picked_listed}
use Rattle.forest.specs.Answers.{MembersBy}
use Rattle.grow.specs.Grown.{with_last}
use Rattle.grow.proofs.Appended.{no_clause_cause}
use Rattle.sets_occurrences.specs.InnerThreads.{Closed}
use Rattle.sets_sizes.specs.InnerSizes.{SizeRow, Sizes}
use Rattle.grow_changed.specs.Changed.{longer, Changes}
use Rattle.grow_changed.specs.InnerChanged.{OverAlike, Fit, SizesWith, FlagsOther, Grows}
use Rattle.grow_changed.proofs.OnlyGrow.{changes_sizes}

-- Clauses with nothing to refuse are sound and closed.
module _ {n : ℕ} {ls : List ℤ} (none : None (ClauseCause n ls)) where
  pub none_sound : n ≤ 4096 → length ls ≤ clause_entries → SoundClauses ls
  none_sound few short =
      record {
        short = short;
        rows = λ e l. by_cases (dec_le (variable_of (literal_at ls e)) n) (λ low. omega arith)
            (λ over. absurd (none 10 e (ClauseCause.outside refl l (λ z. let q = ap variable_of z in omega arith) (omega arith))));
      }

  pub none_closed : Closed ls
  none_closed ends = none 11 (length ls) (ClauseCause.ends_inside refl refl ends)

-- So they are with a clause put last.
module _ {n : ℕ} {ls clause : List ℤ} (fit : Fit n ls clause) where
  pub last_sound : n ≤ 4096 → SoundClauses (with_last ls clause)
  last_sound few = none_sound (no_clause_cause fit.sound fit.admitted) few fit.short

  pub last_closed : Closed (with_last ls clause)
  last_closed = none_closed (no_clause_cause fit.sound fit.admitted)

-- What was stored stands in front.
pub front_put : (table list : List ℤ) {now : List ℤ} {end : ℕ} → now ≡ sets table 0 list → end ≡ length list → length list ≤ length table
    → take (end - 0) (drop 0 now) ≡ list
front_put table list {now} {end} stored size room =
    let q : end - 0 ≡ length list = omega arith in
    ap (λ (k : ℕ). take k now) q ∙ ap (take (length list)) (stored ∙ stored_overwritten list table room) ∙ overwritten_front list table

-- Tables with the same rows of 1 to n stand for one forest.
pub lent_same : (X : Variables) (classes parents classes' parents' : List ℕ) → ((v : ℕ) → row X.count classes' v ≡ row X.count classes v)
    → ((v : ℕ) → row X.count parents' v ≡ row X.count parents v) → lent X classes' parents' ≡ lent X classes parents
unfolding lent
lent_same X classes parents classes' parents' p q = same_rows (λ v. (p v, q v))

-- The sizes tell which sets change.
module _ (scheme : Scheme) (n : ℕ) (es : List ℕ) (ls : List ℤ) (classes parents : List ℕ) (clause : List ℤ) (fit : Fit n ls clause)
    (formed : WellFormed (variables n es) (lent (variables n es) classes parents)) where
  abbrev f : Formula
  f = formula_of n es ls

  abbrev r : Rows
  r = rows classes parents []

  module _ (before after : List ℕ) (old : Sizes scheme n es ls classes parents before n)
      (new : SizesWith scheme n es (with_last ls clause) classes parents clause after) where
    pub sizes_tell : (x : ℕ) → x ≤ n → (get_or before x 0 ≢ get_or after x 0) ↔ Changes scheme f r clause x
    sizes_tell x low = by_test (universal n es x) one none
      where
        left : Rows
        left = new.0

        one : universal n es x ≡ true → (get_or before x 0 ≢ get_or after x 0) ↔ Changes scheme f r clause x
        one u = changes_sizes f r clause fit scheme x u formed left new.1
            (subst (λ b. SizeRow b (MembersBy scheme f r x) (get_or before x 0)) u (old.0 x low))
            (subst (λ b. SizeRow b (MembersBy scheme (longer f clause) left x) (get_or after x 0)) u (new.2.0 x low))

        none : universal n es x ≡ false → (get_or before x 0 ≢ get_or after x 0) ↔ Changes scheme f r clause x
        none u =
            let zero = subst (λ b. SizeRow b (MembersBy scheme f r x) (get_or before x 0)) u (old.0 x low) in
            let zero' = subst (λ b. SizeRow b (MembersBy scheme (longer f clause) left x) (get_or after x 0)) u (new.2.0 x low) in
            (λ other. absurd (other (zero ∙ sym zero')), λ c. absurd (clash c.0 u))

    pub flags_grow : (flags : List Bool) → FlagsOther before after flags n → Grows scheme f r clause flags
    flags_grow flags told x low high = Iff.trans (told x low high) (sizes_tell x high)

  -- What the flags pick is the list.
  pub grows_listed : (flags : List Bool) (tops : List ℕ) → Grows scheme f r clause flags
      → Listed (Changes scheme f r clause) (picked (pick Points n flags tops) n)
  unfolding pick
  grows_listed flags tops told =
      picked_listed (pick Points n flags tops) n (λ x c. let (low, high, _) = universal_within n es x c.0 in (low, high)) told

-- Two numbers of clause entries that are over the limit alike give one order.
pub entries_alike : (rule n : ℕ) (es : List ℕ) {entries other : ℕ} → OverAlike entries other → (later : List Causes)
    → Carries (ruled_prefix rule n es entries ++ later) (ruled_prefix rule n es other ++ later)
entries_alike rule n es {entries} {other} alike later =
    behind (RuleCause rule ∷ VariableCount n ∷ [])
    (one_more (LengthCause es entries) (LengthCause es other) (λ k p (a, b, w). (a, b, ⊎_elim inl (λ l. inr (alike.0 l)) w))
    (λ k p (a, b, w). (a, b, ⊎_elim inl (λ l. inr (alike.1 l)) w)) (same_order (PrefixCauseBy rule n es ∷ later)))
