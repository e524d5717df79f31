-- The places at which the records of a file begin: they stand one behind the other, so that a walk from the beginning meets every one, and each has
-- one kind before it.
use Prim.Native.Nat.{ℕ, ◌<◌, ◌≤◌}
use mathlib.Core.Path.{◌≡◌, refl, sym, ap, ◌∙◌, subst}
use mathlib.Core.Bool.{true, false}
use mathlib.Core.List.{List}
use mathlib.Core.Logic.{◌≢◌, by_cases}
use native.Mathlib.Decide.{dec_lt}
use native.Mathlib.Omega.{arith}
use lib.ListN.{length}
use Rattle.terms.specs.Refusals.{None, First}
use Rattle.terms.proofs.Common.{clash}
use Rattle.terms.proofs.Verdicts.{first_at}
use Rattle.file_format.specs.Layout.{closing_kind}
use Rattle.file_format.specs.Places.{kind_at, next_at, RecordAt}
use Rattle.file_format.specs.InnerPlaces.{Reached, start, behind, may_follow, last_of, StepCause, wrong, missing}
use Rattle.file_format.proofs.Passing.{passed_reached, record_reached}
pub use Rattle.file_format.proofs.Passing.{next_past}
use Rattle.file_format.specs.Causes.{RecordCause, cut, odd, no_count, part_literal, no_word}

module _ (file : List ℕ) where
  next_same : {p q : ℕ} → p ≡ q → next_at file p ≡ next_at file q
  next_same q = ap (next_at file) q

  -- Two places are one, or one stands behind the record at the other.
  data Apart (p q : ℕ) : Type 0 where
    same : p ≡ q → Apart p q
    before : next_at file p ≤ q → Apart p q
    after : next_at file q ≤ p → Apart p q

  from_start : {b p q : ℕ} → p ≡ 0 → Reached file b q → Apart p q
  from_start z (start _ e) = same (z ∙ sym e)
  from_start {p = p} {q = q'} z (behind earlier q r fits k e) = go (from_start z r)
    where
      go : Apart p q → Apart p q'
      go (same s) = let n = next_same s in before (omega arith)
      go (before l) = let n = next_past file q in before (omega arith)
      go (after l) = let n = next_past file q in absurd (omega arith)

  from_next : {b p p' q : ℕ} → p ≡ next_at file p' → ((b q : ℕ) → Reached file b q → Apart p' q) → Reached file b q → Apart p q
  from_next {b} {p} {p'} {q} is rec (start k z) = go (rec b q (start k z))
    where
      go : Apart p' q → Apart p q
      go (same s) = let n = next_same s in after (omega arith)
      go (before l) = let n = next_past file p' in absurd (omega arith)
      go (after l) = let n = next_past file p' in after (omega arith)
  from_next {b} {p} {p'} {q} is rec (behind earlier q' r fits k e) = go (rec b q (behind earlier q' r fits k e)) (from_next is rec r)
    where
      inner : next_at file p' ≤ q → Apart p q' → Apart p q
      inner l (same s) = let n = next_same s in before (omega arith)
      inner l (before m) = let n = next_past file q' in before (omega arith)
      inner l (after m) = same (omega arith)

      go : Apart p' q → Apart p q' → Apart p q
      go (same s) i = let n = next_same s in after (omega arith)
      go (before l) i = inner l i
      go (after l) i = let n = next_past file p' in after (omega arith)

  apart : {b b' p q : ℕ} → Reached file b p → Reached file b' q → Apart p q
  apart (start _ z) s = from_start z s
  apart (behind earlier p r fits k e) s = from_next e (λ b q t. apart r t) s

  -- The kind before a place is one.
  pub kind_one : {b b' p q : ℕ} → p ≡ q → Reached file b p → Reached file b' q → b ≡ b'
  kind_one e (start k z) (start k' z') = k ∙ sym k'
  kind_one e (start k z) (behind earlier q r fits k' z') = let n = next_past file q in absurd (omega arith)
  kind_one e (behind earlier p r fits k z) (start k' z') = let n = next_past file p in absurd (omega arith)
  kind_one {b} {b'} e (behind earlier p r fits k z) (behind earlier' q r' fits' k' z') = go (apart r r')
    where
      go : Apart p q → b ≡ b'
      go (same s) = k ∙ ap (kind_at file) s ∙ sym k'
      go (before l) = let n = next_past file q in absurd (omega arith)
      go (after l) = let n = next_past file p in absurd (omega arith)

  -- A place is never past the end of the file.
  pub reached_within : {b p : ℕ} → Reached file b p → p ≤ length file
  reached_within (start _ z) = omega arith
  reached_within (behind earlier p r fits k z) = omega arith

  -- What holds of every place before one, and of that one, holds of every place before the next.
  pub further : {b at : ℕ} (P : ℕ → Type 0) → Reached file b at → ((e : ℕ) → e < at → P e) → P at → (b' e : ℕ)
      → Reached file b' e → e < next_at file at → P e
  further {at = at} P r clean here b' e r' l = go (apart r' r)
    where
      go : Apart e at → P e
      go (same s) = subst P (sym s) here
      go (before m) = let n = next_past file e in clean e (omega arith)
      go (after m) = absurd (omega arith)

  -- Every cause of 19 stands at a record.
  pub record_cause : {k e : ℕ} → RecordCause file k e → (k ≡ 19) × RecordAt file e
  record_cause (cut n r _) = (n, r)
  record_cause (odd n r _) = (n, r)
  record_cause (no_count n r _ _) = (n, r)
  record_cause (part_literal n r _ _) = (n, r)
  record_cause (no_word n r _ _) = (n, r)

  -- The walk for 19: no record before a place is wrong.
  pub record Shaped (at : ℕ) : Type 0 where
    pub kind : ℕ
    pub reached : Reached file kind at
    pub clean : (e : ℕ) → e < at → (k : ℕ) → RecordCause file k e → ⊥

  pub shaped_none : Shaped 0
  shaped_none = record { kind = 0; reached = start refl refl; clean = λ e l. absurd (omega arith) }

  module _ {at : ℕ} (s : Shaped at) where
    pub shaped_record : at < length file → RecordAt file at
    shaped_record l = record_reached file s.reached l

    pub shaped_fault : RecordCause file 19 at → First (RecordCause file) 19 at
    shaped_fault cause = first_at s.clean cause (λ k c. let q = (record_cause c).0 in omega arith)

    pub shaped_fits : at < length file → (RecordCause file 19 at → ⊥) → next_at file at ≤ length file
    shaped_fits l none = by_cases (dec_lt (length file) (next_at file at)) (λ over. absurd (none (cut refl (shaped_record l) over))) (λ low. omega arith)

    pub shaped_more : (next : ℕ) → next ≡ next_at file at → at < length file → (RecordCause file 19 at → ⊥) → Shaped next
    shaped_more next is l none =
        record {
          kind = kind_at file at;
          reached = behind s.kind at s.reached (shaped_fits l none) refl is;
          clean = λ e lt k cause.
              let r = (record_cause cause).1 in
              further (λ (p : ℕ). (k : ℕ) → RecordCause file k p → ⊥) s.reached s.clean
              (λ k c. none (subst (λ (x : ℕ). RecordCause file x at) (record_cause c).0 c)) (last_of 0 r.kinds) e (passed_reached file r.passed) (omega arith) k cause;
        }

    pub shaped_all : length file ≤ at → None (RecordCause file)
    shaped_all over k e cause = let l = (record_cause cause).1.goes_on in s.clean e (omega arith) k cause

  -- The walk for 20: no record before a place is of a kind that may not come there.
  pub record Ordered (at kind : ℕ) : Type 0 where
    pub reached : Reached file kind at
    pub clean : (e : ℕ) → e < at → (k : ℕ) → StepCause file k e → ⊥

  pub ordered_none : Ordered 0 0
  ordered_none = record { reached = start refl refl; clean = λ e l. absurd (omega arith) }

  order_number : {k e : ℕ} → StepCause file k e → k ≡ 20
  order_number (wrong _ n _ _ _) = n
  order_number (missing _ n _ _ _) = n

  module _ {at kind : ℕ} (o : Ordered at kind) where
    pub ordered_fault : at < length file → may_follow kind (kind_at file at) ≡ false → First (StepCause file) 20 at
    ordered_fault l no' = first_at o.clean (wrong kind refl o.reached l no') (λ k c. let q = order_number c in omega arith)

    pub ordered_missing : length file ≤ at → kind ≢ closing_kind → First (StepCause file) 20 at
    ordered_missing over no' =
        first_at o.clean (missing kind refl o.reached (let w = reached_within o.reached in omega arith) no')
        (λ k c. let q = order_number c in omega arith)

    pub ordered_all : length file ≤ at → kind ≡ closing_kind → None (StepCause file)
    ordered_all over is k e (wrong b n r l no') = o.clean e (omega arith) k (wrong b n r l no')
    ordered_all over is k e (missing b n r z no') =
        let w = reached_within o.reached in
        let q : e ≡ at = omega arith in
        no' (kind_one q r o.reached ∙ is)

    module _ (whole : None (RecordCause file)) where
      pub whole_fits : at < length file → next_at file at ≤ length file
      whole_fits l =
          by_cases (dec_lt (length file) (next_at file at))
          (λ over. absurd (whole 19 at (cut refl (record_reached file o.reached l) over))) (λ low. omega arith)

      pub ordered_more : (next : ℕ) → next ≡ next_at file at → at < length file → may_follow kind (kind_at file at) ≡ true
          → Ordered next (kind_at file at)
      ordered_more next is l yes' =
          let fits = whole_fits l in
          record { reached = behind kind at o.reached fits refl is; clean = go }
        where
          -- a cause before the next place is one before this, or one here
          here : (k e : ℕ) → e ≡ at → StepCause file k e → ⊥
          here k e q (wrong b n r l' no') = clash yes' (sym (ap₂' (kind_one q r o.reached) q) ∙ no')
            where
              ap₂' : {b e : ℕ} → b ≡ kind → e ≡ at → may_follow b (kind_at file e) ≡ may_follow kind (kind_at file at)
              ap₂' p q i = may_follow (p i) (kind_at file (q i))
          here k e q (missing b n r z no') = omega arith

          place_of : {k e : ℕ} → StepCause file k e → (b : ℕ) × Reached file b e
          place_of (wrong b _ r _ _) = (b, r)
          place_of (missing b _ r _ _) = (b, r)

          go : (e : ℕ) → e < next → (k : ℕ) → StepCause file k e → ⊥
          go e lt k cause =
              let r = place_of cause in
              further (λ (p : ℕ). (k : ℕ) → StepCause file k p → ⊥) o.reached o.clean (λ k c. here k at refl c) r.0 e r.1
              (omega arith) k cause
