-- The parts of a block as they are stored: the 0 that closes the block before, the mark, and a variable with its copy.
use Prim.Native.Nat.{ℕ, zero, suc, ◌+◌, ◌≤◌}
use mathlib.Core.Path.{◌≡◌, refl, sym, ap, ◌∙◌, subst}
use mathlib.Core.Bool.{cond}
use mathlib.Core.List.{List, [], ◌∷◌, ◌++◌}
use mathlib.Core.Logic.{◌≢◌}
use native.Mathlib.Omega.{arith}
use borrow.Author.Tests.{eq-eqb, ne_eqb}
use lib.ListN.{length, set}
use Rattle.formula_rules.specs.InnerWriting.{closing}
use Rattle.expand_clauses.specs.InnerCopies.{with_copy}
use Rattle.expand_clauses.specs.InnerCopied.{Stored, tabled}
use Rattle.expand.specs.InnerWriting.{beginning}
use Rattle.expand_clauses.proofs.Storing.{stored_none, stored_one, stored_as, stored_more}

-- closing a block: nothing where there is none, and else a 0
pub closed_none : (out : List ℕ) (at last : ℕ) → last ≡ 0 → Stored (closing last) out out at at
unfolding closing
closed_none out at zero q = stored_none out at
closed_none out at (suc last) q = absurd (omega arith)

pub closed_zero : (out : List ℕ) (at last : ℕ) {after : List ℕ} → last ≢ 0 → after ≡ set out at 0 → Stored (closing last) out after at (at + 1)
unfolding closing
closed_zero out at zero some s = absurd (some refl)
closed_zero out at (suc last) some s = stored_one 0 at s

-- closing writes at most one entry
pub closing_most : (last : ℕ) → length (closing last) ≤ 1
unfolding closing
closing_most zero = omega arith
closing_most (suc last) = omega arith

-- A block that has begun begins no more; any other begins behind the one before.
pub begin_none : (mark last : ℕ) → mark ≡ last → beginning mark last ≡ []
unfolding beginning
begin_none mark last q = ap (λ b. cond b [] (closing last ++ (mark ∷ []))) (eq-eqb mark last q)

pub begin_new : (mark last : ℕ) → mark ≢ last → beginning mark last ≡ closing last ++ (mark ∷ [])
unfolding beginning
begin_new mark last other = ap (λ b. cond b [] (closing last ++ (mark ∷ []))) (ne_eqb mark last other)

pub begun_already : (out : List ℕ) (at mark last : ℕ) → mark ≡ last → Stored (beginning mark last) out out at at
begun_already out at mark last q = stored_as (sym (begin_none mark last q)) (stored_none out at)

pub begun_new : (mark last : ℕ) {out mid after : List ℕ} {at k : ℕ} → mark ≢ last → Stored (closing last) out mid at k → after ≡ set mid k mark → Stored (beginning mark last) out after at (k + 1)
begun_new mark last {k = k} other closed s = stored_as (sym (begin_new mark last other)) (stored_more (closing last) (mark ∷ []) closed (stored_one mark k s))

-- A variable, and its copy behind it where it has one.
module _ (copies : List ℕ) (v : ℕ) {out mid : List ℕ} (at : ℕ) (first : Stored (v ∷ []) out mid at (at + 1)) where
  pub placed_alone : tabled copies v ≡ 0 → Stored (with_copy (tabled copies) v) out mid at (at + 1)
  unfolding with_copy
  placed_alone none = stored_as (sym (ap (λ b. cond b (v ∷ []) (v ∷ tabled copies v ∷ [])) (eq-eqb (tabled copies v) 0 none))) first

  pub placed_both : {copy : ℕ} {after : List ℕ} → (tabled copies v ≢ 0) × (copy ≡ tabled copies v) → Stored (copy ∷ []) mid after (at + 1) (at + 1 + 1)
      → Stored (with_copy (tabled copies) v) out after at (at + 2)
  unfolding with_copy
  placed_both {copy} {after} (some, is) second =
      let both : Stored (v ∷ copy ∷ []) out after at (at + 1 + 1) = stored_more (v ∷ []) (copy ∷ []) first second in
      let q : at + 1 + 1 ≡ at + 2 = omega arith in
      subst (λ (k : ℕ). Stored (with_copy (tabled copies) v) out after at k) q
      (stored_as (ap (λ (k : ℕ). v ∷ k ∷ []) is ∙ sym (ap (λ b. cond b (v ∷ []) (v ∷ tabled copies v ∷ [])) (ne_eqb (tabled copies v) 0 some))) both)
