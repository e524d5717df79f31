-- A file that has no cause of 19 to 21 has its records in their order, one behind the other within the longest file; and the order of these refusals.
use Rattle.terms.specs.Says.{Verdict, said}
use Prim.Native.Nat.{ℕ, ◌≤◌, ◌<◌}
use mathlib.Core.Path.{◌≡◌, refl, sym, ◌∙◌}
use mathlib.Core.Bool.{Bool, true, false}
use mathlib.Core.List.{List, [], ◌∷◌}
use mathlib.Core.Logic.{◌≢◌, by_cases}
use native.Mathlib.Decide.{dec_lt}
use native.Mathlib.Omega.{arith}
use borrow.Author.Tests.{eqb-true}
use lib.ListN.{length}
use Rattle.terms.specs.Refusals.{At0, None, NoneOf, Judged}
use Rattle.terms.proofs.Verdicts.{at0_none, judges_later}
use Rattle.file_format.specs.Layout.{prefix_kind, clauses_kind, rows_kind, closing_kind, SumsToZero}
use Rattle.file_format.specs.Places.{size_at, kind_at, next_at, second_at, third_at, fourth_at}
use Rattle.file_format.specs.InnerPlaces.{Reached, start, behind, may_follow, StepCause, wrong, missing}
use Rattle.file_format.proofs.Passing.{orders_steps, record_reached, after_start, after_prefix, after_clauses}
use Rattle.file_format.specs.Causes.{file_bytes, TooLarge, RecordCause, cut, no_count, OrderCause}
use Rattle.file_format.specs.InnerOrders.{file_order}
use Rattle.file_layout.specs.InnerLaid.{Laid}
use Rattle.file_layout.proofs.Walks.{reached_within}
use Rattle.file_layout.proofs.Spans.{second_is, third_is, fourth_is}

module _ (file : List ℕ) (none : NoneOf (file_order file)) where
  -- no kind comes where it may not, by the one before it
  pub steps_clear : None (StepCause file)
  steps_clear = ((orders_steps file).none (none.1.1.0, tt)).0

  -- Behind every kind but the last comes a record that may follow, and it is whole.
  pub record Follows (before place : ℕ) : Type 0 where
    pub goes_on : place < length file
    pub may : may_follow before (kind_at file place) ≡ true
    pub fits : next_at file place ≤ length file

  pub follows : {before place : ℕ} → Reached file before place → before ≢ closing_kind → Follows before place
  follows {before} {place} r other = record { goes_on = on; may = may_be (may_follow before (kind_at file place)) refl; fits = whole }
    where
      on : place < length file
      on =
          by_cases (dec_lt place (length file)) (λ l. l)
          (λ l. absurd (steps_clear 20 place (missing before refl r (let w = reached_within file r in omega arith) other)))

      may_be : (b : Bool) → may_follow before (kind_at file place) ≡ b → may_follow before (kind_at file place) ≡ true
      may_be true e = e
      may_be false e = absurd (steps_clear 20 place (wrong before refl r on e))

      whole : next_at file place ≤ length file
      whole =
          by_cases (dec_lt (length file) (next_at file place))
          (λ l. absurd (none.1.0 19 place (cut refl (record_reached file r on) l))) (λ l. omega arith)

  pub next_reached : {before place kind : ℕ} → Reached file before place → Follows before place → kind_at file place ≡ kind → (next : ℕ)
      → next ≡ next_at file place → Reached file kind next
  next_reached {before} {place} r f is next at = behind before place r f.fits (sym is) at

  -- The kinds 1, 2 and 3 in their order, and what stands behind them.
  pub first_kind : kind_at file 0 ≡ prefix_kind
  first_kind = let f = follows (start refl refl) (λ q. omega arith) in eqb-true (kind_at file 0) 1 (sym (after_start 0 (kind_at file 0) refl) ∙ f.may)

  pub second_reached : Reached file 1 (second_at file)
  second_reached = next_reached (start refl refl) (follows (start refl refl) (λ q. omega arith)) first_kind (second_at file) (second_is file)

  pub second_kind : kind_at file (second_at file) ≡ clauses_kind
  second_kind =
      let f = follows second_reached (λ q. omega arith) in
      eqb-true (kind_at file (second_at file)) 2 (sym (after_prefix 1 (kind_at file (second_at file)) refl) ∙ f.may)

  pub third_reached : Reached file 2 (third_at file)
  third_reached = next_reached second_reached (follows second_reached (λ q. omega arith)) second_kind (third_at file) (third_is file)

  pub third_kind : kind_at file (third_at file) ≡ rows_kind
  third_kind =
      let f = follows third_reached (λ q. omega arith) in
      eqb-true (kind_at file (third_at file)) 3 (sym (after_clauses 2 (kind_at file (third_at file)) refl) ∙ f.may)

  pub fourth_reached : Reached file 3 (fourth_at file)
  fourth_reached = next_reached third_reached (follows third_reached (λ q. omega arith)) third_kind (fourth_at file) (fourth_is file)

  pub file_laid : Laid file
  file_laid =
      let small : length file ≤ file_bytes = by_cases (dec_lt file_bytes (length file)) (λ l. absurd (none.0 19 0 (refl, refl, l))) (λ l. omega arith) in
      let last = (follows fourth_reached (λ q. omega arith)).fits in
      let first = follows (start refl refl) (λ q. omega arith) in
      record {
        counted =
            by_cases (dec_lt (size_at file 0) 2)
            (λ l. absurd (none.1.0 19 0 (no_count refl (record_reached file (start refl refl) first.goes_on) first_kind l)))
            (λ l. omega arith);
        ends = omega arith;
      }

-- Once a file is not too long, its records and its sum decide.
pub size_then : (file : List ℕ) → length file ≤ file_bytes → (v : Verdict)
    → Judged (RecordCause file ∷ OrderCause file ∷ At0 21 (SumsToZero file → ⊥) ∷ []) v → Judged (file_order file) v
size_then file fits v judged =
    judges_later (At0 19 (TooLarge file) ∷ []) (RecordCause file ∷ OrderCause file ∷ At0 21 (SumsToZero file → ⊥) ∷ []) (said v)
    (at0_none 19 (λ l. omega arith), tt) judged
