-- A prefix that rule 2 accepts, joined, is one that rule 1 accepts.
use Prim.Native.Nat.{ℕ, zero, suc, ◌≤◌}
use mathlib.Core.Path.{◌≡◌, refl, sym, ap, ◌∙◌}
use mathlib.Core.Bool.{Bool, true, false, cond, not, ◌&&◌}
use mathlib.Core.List.{List, [], ◌∷◌}
use mathlib.Core.Logic.{inl, inr, ◌≢◌}
use native.Mathlib.Omega.{arith}
use borrow.Author.Tests.{eq-eqb, ne_eqb, le-leb, eqb-true}
use lib.Dec.{eqb, leb}
use lib.ListN.{length}
use Rattle.terms.specs.Refusals.{None}
use Rattle.terms.proofs.Common.{clash}
use Rattle.formula.specs.Causes.{PrefixCause}
use Rattle.formula.specs.Meaning.{has}
use Rattle.formula.specs.InnerScan.{IsMark}
use Rattle.formula.proofs.Accepts.{good_mark, prefix_passes, clauses_pass, accepts}
use Rattle.formula_rules.specs.Joined.{joined_prefix}
use Rattle.formula_rules.specs.Rules.{JoinedCause}
use Rattle.formula_rules.specs.InnerWriting.{closing}
use Rattle.formula_rules.proofs.Scanned.{mark_some}
use Rattle.formula_rules.proofs.Passing.{starts_zero, new_mark, Passes, no_more, begin, go_on, close_block, name, passes}
use Rattle.formula_rules.proofs.Rest.{rest, rest_joined, new_mark_lem, old_mark}

pub good_mark_lem : (mark last count : ℕ) → IsMark mark → mark ≢ last → count ≢ 64 → good_mark mark last count ≡ true
unfolding good_mark
good_mark_lem mark last count good other few = first good ∙ ap (λ b. not b && not (eqb count 64)) (ne_eqb mark last other) ∙ ap not (ne_eqb count 64 few)
  where
    first : IsMark mark → good_mark mark last count ≡ (not (eqb mark last) && not (eqb count 64))
    first (inl q) = ap (λ b. cond b true (eqb mark 2) && not (eqb mark last) && not (eqb count 64)) (eq-eqb mark 1 q)
    first (inr q) =
        ap (λ b. cond b true (eqb mark 2) && not (eqb mark last) && not (eqb count 64)) (ne_eqb mark 1 (λ one. omega arith))
        ∙ ap (λ b. b && not (eqb mark last) && not (eqb count 64)) (eq-eqb mark 2 q)

pub both_true : {a b : Bool} → a ≡ true → b ≡ true → (a && b) ≡ true
both_true {a} {b} p q = ap (λ x. x && b) p ∙ q

-- What is left to write passes the test of rule 1. Where a block is not closed yet, the test stands inside it; `fresh` only where a variable follows.
abbrev Goes : ℕ → Bool → ℕ → ℕ → List ℕ → List ℕ → Type 0
Goes n true zero count names es = prefix_passes n (rest true 0 es) true false 0 count names ≡ true
Goes n true (suc last) count names es = prefix_passes n (rest true (suc last) es) false false (suc last) count names ≡ true
Goes n false zero count names es = starts_zero es ≡ true → prefix_passes n (rest false 0 es) true false 0 count names ≡ true
Goes n false (suc last) count names es =
    (fresh : Bool) → (fresh ≡ true → starts_zero es ≡ false) → prefix_passes n (rest false (suc last) es) false fresh (suc last) count names ≡ true

-- the 0 that closes the block before, and a mark that begins one
begun : (n last mark count : ℕ) (names more : List ℕ) → IsMark mark → new_mark mark last more ≡ true → count ≢ 64
    → Goes n false mark (suc count) names more → Goes n true last count names (mark ∷ more)
unfolding prefix_passes rest closing
begun n last zero count names more good new few on = absurd (mark_some zero good refl)
begun n zero (suc m) count names more good new few on =
    let (f, other) = new_mark_lem (suc m) 0 more new in
    ap (λ b. prefix_passes n (cond b (suc m ∷ rest false (suc m) more) (rest false 0 more)) true false 0 count names) new
    ∙ both_true (good_mark_lem (suc m) 0 count good other few) (on true (λ _. f))
begun n (suc last) (suc m) count names more good new few on =
    let (f, other) = new_mark_lem (suc m) (suc last) more new in
    ap (λ b. prefix_passes n (cond b (0 ∷ suc m ∷ rest false (suc m) more) (rest false (suc last) more)) false false (suc last) count names) new
    ∙ both_true (good_mark_lem (suc m) (suc last) count good other few) (on true (λ _. f))

went_on : (n last mark count : ℕ) (names more : List ℕ) → IsMark mark → new_mark mark last more ≡ false → Goes n false last count names more
    → Goes n true last count names (mark ∷ more)
unfolding rest closing
went_on n zero mark count names more good old on =
    ap (λ b. prefix_passes n (cond b (mark ∷ rest false mark more) (rest false 0 more)) true false 0 count names) old ∙ on (starts (starts_zero more) refl)
  where
    starts : (b : Bool) → starts_zero more ≡ b → starts_zero more ≡ true
    starts true q = q
    starts false q = absurd (mark_some mark good (old_mark mark 0 more q old))
went_on n (suc last) mark count names more good old on =
    ap (λ b. prefix_passes n (cond b (0 ∷ mark ∷ rest false mark more) (rest false (suc last) more)) false false (suc last) count names) old
    ∙ on false (λ t. absurd (clash t refl))

closed : (n last count : ℕ) (names more : List ℕ) → Goes n true last count names more → Goes n false last count names (0 ∷ more)
unfolding rest starts_zero
closed n zero count names more on = λ _. on
closed n (suc last) count names more on = inside
  where
    inside : (fresh : Bool) → (fresh ≡ true → true ≡ false) → prefix_passes n (rest true (suc last) more) false fresh (suc last) count names ≡ true
    inside true stale = absurd (clash refl (stale refl))
    inside false stale = on

named : (n last count v : ℕ) (names more : List ℕ) → v ≢ 0 → v ≤ n → has names v ≡ false → Goes n false last count (v ∷ names) more
    → Goes n false last count names (v ∷ more)
unfolding prefix_passes rest starts_zero
named n zero count v names more some low new on = λ t. absurd (some (eqb-true v 0 t))
named n (suc last) count v names more some low new on = λ fresh stale.
    ap (λ b. prefix_passes n (cond b (rest true (suc last) more) (v ∷ rest false (suc last) more)) false fresh (suc last) count names) (ne_eqb v 0 some)
    ∙ ap (λ b. cond b (not fresh && prefix_passes n (rest false (suc last) more) true false (suc last) count names)
    (leb v n && not (has names v) && prefix_passes n (rest false (suc last) more) false false (suc last) count (v ∷ names))) (ne_eqb v 0 some)
    ∙ both_true (both_true (le-leb v n low) (ap not new)) (on false (λ t. absurd (clash t refl)))

goes : {n : ℕ} {opening : Bool} {last count : ℕ} {names es : List ℕ} → Passes n opening last count names es → Goes n opening last count names es
unfolding prefix_passes rest closing
goes (no_more {last = zero}) = refl
goes (no_more {last = suc last}) = refl
goes {n} (begin {mark} {last} {count} {names} {more} good new few d) = begun n last mark count names more good new few (goes d)
goes {n} (go_on {mark} {last} {count} {names} {more} good old d) = went_on n last mark count names more good old (goes d)
goes {n} (close_block {last} {count} {names} {more} d) = closed n last count names more (goes d)
goes {n} (name {v} {last} {count} {names} {more} some low new d) = named n last count v names more some low new (goes d)

-- So the joined prefix has no cause of rule 1.
pub joined_accepted : {n : ℕ} {es : List ℕ} → n ≤ 4096 → length (joined_prefix es) ≤ 8192 → None (JoinedCause n es) → None (PrefixCause n (joined_prefix es))
unfolding clauses_pass
joined_accepted {n} {es} few short none =
    let d = passes none in
    (accepts n (joined_prefix es) [] few short (omega arith) (sym (ap (λ (r : List ℕ). prefix_passes n r true false 0 0 []) (rest_joined d)) ∙ goes d)
    refl).1.1.0
