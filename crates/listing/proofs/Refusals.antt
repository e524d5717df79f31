-- The number of a refusal and its place have at most five digits, so that every refusal has a line; and what build refuses is what check does.
use Prim.Native.Nat.{ℕ, ◌≤◌, ◌<◌}
use mathlib.Core.Path.{refl}
use mathlib.Core.List.{List}
use mathlib.Core.Logic.{inl, inr, ⊎_elim}
use native.Mathlib.Omega.{arith}
use lib.IntN.{ℤ, pos}
use lib.ListN.{length, replicate}
use Rattle.terms.specs.Refusals.{At0, FirstOf}
use Rattle.formula.specs.Causes.{PrefixCause, ClauseCause}
use Rattle.formula.specs.Lent.{Formula}
use Rattle.formula.proofs.Places.{prefix_place, clause_place}
use Rattle.formula_rules.specs.Rules.{check_order}
use Rattle.grow.specs.Grown.{Standing, TooShort, build_order}
use Rattle.grow.specs.InnerRows.{Room}
use Rattle.text_lines.specs.Format.{MayFollow, LineCause}
use Rattle.text_lines.proofs.Places.{cause_place}
use Rattle.text_qdimacs.specs.Reading.{TEXT-MOST, Overlong, overlong, NoRoom, no_room_prefix, no_room_clauses, read_order}
use Rattle.listing.specs.Listing.{Refuses, not_read, not_accepted}

-- both have at most five digits
abbrev pub Digits : ℕ → ℕ → Type 0
Digits number place = (number < 100000) × (place < 100000)

-- A refusal at place 0.
at0_digits : (k : ℕ) {condition : Type 0} {number place : ℕ} → k < 100000 → At0 k condition number place → Digits number place
at0_digits k low (number_is, place_is, _) = (omega arith, omega arith)

-- A refusal at an entry of a prefix within its limit, or at its length, and of a clause table.
prefix_digits : {n : ℕ} {es : List ℕ} (number place : ℕ) → length es ≤ 8192 → PrefixCause n es number place → Digits number place
prefix_digits number place l cause = let (low, within) = prefix_place number place cause in (omega arith, omega arith)

clause_digits : {n : ℕ} {ls : List ℤ} (number place : ℕ) → length ls ≤ 16384 → ClauseCause n ls number place → Digits number place
clause_digits number place l cause = let (low, within) = clause_place number place cause in (omega arith, omega arith)

-- So no refusal of check is longer: by the time that a table is looked at its length is within its limit.
check_digits : (f : Formula) (number place : ℕ) → FirstOf (check_order 1 f) number place → Digits number place
check_digits f number place (inl c) = at0_digits 23 (omega arith) c.holds
check_digits f number place (inr (_, inl c)) = at0_digits 1 (omega arith) c.holds
check_digits f number place (inr (_, inr (_, inl c))) = at0_digits 2 (omega arith) c.holds
check_digits f number place (inr (_, inr (_, inr (short, inl c)))) =
    let long : ¬ (8192 < length f.prefix) = λ l. short 2 0 (refl, refl, inl l) in
    prefix_digits number place (omega arith) c.holds
check_digits f number place (inr (_, inr (_, inr (short, inr (_, inl c))))) =
    let long : ¬ (16384 < length f.clauses) = λ l. short 2 0 (refl, refl, inr l) in
    clause_digits number place (omega arith) c.holds
check_digits f number place (inr (_, inr (_, inr (_, inr (_, inr (_, none)))))) = absurd none

-- A cause of 16 or 17 stands within the text.
cause_digits : {text : List ℕ} {number place : ℕ} → length text ≤ TEXT-MOST → LineCause MayFollow text number place → Digits number place
cause_digits short c = let (low, within) = cause_place c in (omega arith, omega arith)

-- A text that is too long is refused at its limit, and tables that do not fit at 0.
overlong_digits : {text : List ℕ} {number place : ℕ} → Overlong text number place → Digits number place
overlong_digits (overlong _) = (omega arith, omega arith)

room_digits : {text prefix : List ℕ} {clauses : List ℤ} {number place : ℕ} → NoRoom text prefix clauses number place → Digits number place
room_digits (no_room_prefix _ _) = (omega arith, omega arith)
room_digits (no_room_clauses _ _) = (omega arith, omega arith)

-- So no refusal of read is longer.
read_digits : (text prefix : List ℕ) (clauses : List ℤ) (number place : ℕ) → FirstOf (read_order text prefix clauses) number place
    → Digits number place
read_digits text prefix clauses number place (inl f) = overlong_digits f.holds
read_digits text prefix clauses number place (inr (short, inl f)) =
    let long : ¬ (TEXT-MOST < length text) = λ l. short 15 TEXT-MOST (overlong l) in
    cause_digits (omega arith) f.holds
read_digits text prefix clauses number place (inr (_, inr (_, inl f))) = room_digits f.holds
read_digits text prefix clauses number place (inr (_, inr (_, inr (_, none)))) = absurd none

-- The refusal of a text has a line.
pub refusal_digits : {text : List ℕ} {number place : ℕ} → Refuses text number place → Digits number place
refusal_digits {text} {number} {place} (not_read first) = read_digits text (replicate 8192 0) (replicate 16384 (pos 0)) number place first
refusal_digits {number = number} {place = place} (not_accepted f _ first) = check_digits f number place first

-- What build refuses check refuses, where build has rows for every variable that a formula may have.
pub build_check : (f : Formula) (s : Standing) (number place : ℕ) → Room 4096 s.rows.classes s.rows.parents s.rows.counts
    → FirstOf (build_order 1 f s) number place → FirstOf (check_order 1 f) number place
build_check f s number place room (inl c) = inl c
build_check f s number place room (inr (a, inl c)) = inr (a, inl c)
build_check f s number place room (inr (a, inr (b, inl c))) = inr (a, inr (b, inl c))
build_check f s number place room (inr (a, inr (b, inr (c, inl d)))) = inr (a, inr (b, inr (c, inl d)))
build_check f s number place room (inr (a, inr (b, inr (c, inr (d, inl e))))) = inr (a, inr (b, inr (c, inr (d, inl e))))
build_check f s number place (l, l', l'') (inr (_, inr (b, inr (_, inr (_, inr (_, inl e)))))) =
    let many : ¬ (4096 < f.n) = λ l. b 1 0 (refl, refl, l) in
    let short : TooShort f.n s = e.holds.2 in
    absurd (⊎_elim (λ k. omega arith) (⊎_elim (λ k. omega arith) (λ k. omega arith)) short)
build_check f s number place room (inr (_, inr (_, inr (_, inr (_, inr (_, inr (_, none))))))) = absurd none
