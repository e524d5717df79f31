-- What is right of a path by the level table is right by the prefix.
use Prim.Native.Nat.{ℕ, ◌<◌}
use mathlib.Core.Path.{◌≡◌, refl, sym}
use mathlib.Core.Bool.{Bool, true, false}
use mathlib.Core.List.{List, [], ◌∷◌}
use mathlib.Core.Logic.{◌⊎◌, inl, inr, ⊎_elim}
use native.Mathlib.Decide.{dec_lt}
use native.Mathlib.Omega.{arith}
use lib.IntN.{ℤ}
use Rattle.terms.specs.Refusals.{At0, Judged}
use Rattle.terms.specs.Says.{Verdict}
use Rattle.terms.proofs.Common.{clash}
use Rattle.formula.specs.Meaning.{level, is_existential}
use Rattle.forest_theory.specs.Reach.{Variables, Deeper}
use Rattle.forest.specs.Causes.{NotDeeper}
use Rattle.forest_tables.specs.Formula.{variables}
use Rattle.forest_tables.proofs.Agreeing.{Same, same_back, deeper_same}
use Rattle.terms.proofs.Orders.{carry_judged, one_more, same_order}
use Rattle.path_check.specs.Causes.{PathCause, empty, without_x, is_always_true, apart, without_y}

-- The same existentials are deeper than x, so that the same entries fail.
cause_same : {X Y : Variables} {ls : List ℤ} {x y : ℕ} {path : List ℕ} {k i : ℕ} → Same X Y → X.lev x ≡ Y.lev x → PathCause X ls x y path k i → PathCause Y ls x y path k i
cause_same s own (empty q p l) = empty q p l
cause_same s own (without_x q p l not') = without_x q p l not'
cause_same s own (is_always_true q l t) = is_always_true q l t
cause_same s own (apart e q p l not') = apart e q p l (λ sh. not' (record { variable = sh.variable; deep = deeper_same (same_back s) (sym own) sh.deep; left = sh.left; right = sh.right }))
cause_same s own (without_y q l not') = without_y q l not'

-- y is not existential and deeper than x
pub not_deep : (n : ℕ) (es : List ℕ) (x y : ℕ) → (Deeper (variables n es) x y → ⊥) → NotDeeper n es x y
not_deep n es x y shallow = go (is_existential n es y) refl (dec_lt (level es x) (level es y))
  where
    go : (b : Bool) → is_existential n es y ≡ b → Dec (level es x < level es y) → NotDeeper n es x y
    go true e (yes l) = absurd (shallow (record { existential = e; deep = l }))
    go true e (no l) = inr (omega arith)
    go false e d = inl e

pub deep_not : (n : ℕ) (es : List ℕ) (x y : ℕ) → Deeper (variables n es) x y → NotDeeper n es x y → ⊥
deep_not n es x y d = ⊎_elim (λ un. clash d.existential un) (λ l. let o = d.deep in omega arith)

-- Where neither x nor y is refused, the causes by the level table are those of the call.
pub judged_pair : {X Y : Variables} (ls : List ℤ) {x : ℕ} (y : ℕ) (path : List ℕ) {U D : Type 0} (N : Type 0) → Same X Y → X.lev x ≡ Y.lev x → (U → ⊥) → (D → ⊥)
    → (r : Verdict) → Judged (At0 13 N ∷ PathCause X ls x y path ∷ []) r → Judged (At0 13 (U ⊎ (D ⊎ N)) ∷ PathCause Y ls x y path ∷ []) r
judged_pair {X} {Y} ls {x} y path {U} {D} N s own universal deep r =
    carry_judged (At0 13 N ∷ PathCause X ls x y path ∷ []) (At0 13 (U ⊎ (D ⊎ N)) ∷ PathCause Y ls x y path ∷ [])
    (one_more (At0 13 N) (At0 13 (U ⊎ (D ⊎ N))) (λ k p c. (c.0, c.1, inr (inr c.2))) (λ k p c. (c.0, c.1, ⊎_elim (λ u. absurd (universal u)) (⊎_elim (λ d. absurd (deep d)) (λ m. m)) c.2))
    (one_more (PathCause X ls x y path) (PathCause Y ls x y path) (λ k p. cause_same s own) (λ k p. cause_same (same_back s) (sym own)) (same_order []))) r
