-- One entry of a path: what makes it fail, and the stamps that the next one is held against.
use Prim.Native.Nat.{ℕ, zero, suc, ◌+◌, ◌-◌, ◌<◌}
use mathlib.Core.Path.{◌≡◌, refl, sym, ap, subst, ◌∙◌}
use mathlib.Core.Bool.{Bool, true, false, not}
use mathlib.Core.List.{List}
use mathlib.Core.Logic.{◌≢◌, ⊎_elim, by_cases}
use native.Mathlib.Decide.{dec_lt}
use native.Mathlib.Numerals.{add-one}
use native.Mathlib.Omega.{arith}
use lib.IntN.{ℤ}
use lib.ListN.{length, get_or, replicate, length-replicate, get_or-replicate, get_or-eq_default}
use Rattle.terms.proofs.Common.{clash, below_suc}
use Rattle.terms.proofs.Verdicts.{first_at}
use Rattle.terms.specs.Refusals.{Causes, First, None}
use Rattle.formula.specs.Meaning.{always_true}
use Rattle.formula.specs.Tables.{at}
use Rattle.forest_theory.specs.Reach.{Variables}
use Rattle.forest_tables.specs.InnerRows.{Tells}
use Rattle.forest_entries.specs.InnerFlags.{Has}
use Rattle.path_check.specs.Paths.{clause_at, HasVariable, Shared}
use Rattle.path_check.specs.Causes.{PathCause, empty, without_x, is_always_true, apart, without_y}
use Rattle.path_check.specs.InnerWalk.{StandsFrom, Joins, Meets, Stamped, Walked}
use Rattle.path_check.proofs.Beginning.{from_has}

-- A flag tells of P the opposite of what it tells of Q, where one of the two holds and never both.
pub tells_not : {P Q : Type 0} (b : Bool) → (P → Q → ⊥) → ((P → ⊥) → Q) → Tells b P → Tells (not b) Q
tells_not true clashes other h = clashes h
tells_not false clashes other h = other h

-- No cause before entry i.
abbrev pub Clean : Causes → ℕ → Type 0
Clean causes i = (e : ℕ) → e < i → (k : ℕ) → causes k e → ⊥

module _ {X : Variables} {ls : List ℤ} {x y : ℕ} {path : List ℕ} where
  -- Every cause is one of 24 ...
  pub only_24 : {k i : ℕ} → PathCause X ls x y path k i → PathCause X ls x y path 24 i
  only_24 (empty _ p q) = empty refl p q
  only_24 (without_x _ p l not') = without_x refl p l not'
  only_24 (is_always_true _ l t) = is_always_true refl l t
  only_24 (apart e _ p l not') = apart e refl p l not'
  only_24 (without_y _ q not') = without_y refl q not'

  number_24 : {k i : ℕ} → PathCause X ls x y path k i → k ≡ 24
  number_24 (empty q _ _) = q
  number_24 (without_x q _ _ _) = q
  number_24 (is_always_true q _ _) = q
  number_24 (apart _ q _ _ _) = q
  number_24 (without_y q _ _) = q

  -- ... and stands at an entry, where there is one.
  within_path : {k i : ℕ} → 0 < length path → PathCause X ls x y path k i → i < length path
  within_path some (empty _ _ q) = absurd (omega arith)
  within_path some (without_x _ p l _) = omega arith
  within_path some (is_always_true _ l _) = l
  within_path some (apart _ _ _ l _) = l
  within_path some (without_y _ q _) = omega arith

  -- What does not continue the path is a cause.
  pub not_joined : (i : ℕ) → i < length path → (Joins X ls x path i → ⊥) → PathCause X ls x y path 24 i
  not_joined zero l not' = without_x refl refl l (λ h. not' (Joins.first refl h))
  not_joined (suc e) l not' = apart e refl refl l (λ s. not' (Joins.next e refl s))

  -- An entry with none of the faults has no cause.
  pub no_cause : {k i : ℕ} → i < length path → always_true (clause_at ls (at path i)) ≡ false → Joins X ls x path i
      → (suc i ≡ length path → HasVariable ls (at path i) y) → PathCause X ls x y path k i → ⊥
  no_cause l plain joins last (empty _ _ q) = omega arith
  no_cause l plain (Joins.first _ h) last (without_x _ p _ not') = not' h
  no_cause l plain (Joins.next e q _) last (without_x _ p _ not') = omega arith
  no_cause l plain joins last (is_always_true _ _ t) = clash t plain
  no_cause l plain (Joins.first z _) last (apart e _ p _ not') = omega arith
  no_cause {i = i} l plain (Joins.next d q s) last (apart e _ p _ not') = let same : d ≡ e = omega arith in not' (subst (λ j. Shared X ls x (at path j) (at path i)) same s)
  no_cause l plain joins last (without_y _ q not') = not' (last q)

  pub clean_more : {i : ℕ} → Clean (PathCause X ls x y path) i → (PathCause X ls x y path 24 i → ⊥) → Clean (PathCause X ls x y path) (i + 1)
  clean_more {i} clean none = rw (add-one i) (below_suc (λ e. (k : ℕ) → PathCause X ls x y path k e → ⊥) i clean (λ k cause. none (only_24 cause)))

  pub fails_first : {i : ℕ} → Clean (PathCause X ls x y path) i → PathCause X ls x y path 24 i → First (PathCause X ls x y path) 24 i
  fails_first clean cause = first_at clean cause (λ k c. let q = number_24 c in omega arith)

  pub fails_never : {i : ℕ} → Clean (PathCause X ls x y path) i → length path ≢ 0 → (i < length path → ⊥) → None (PathCause X ls x y path)
  fails_never clean some done k e cause = let l = within_path (omega arith) cause in clean e (omega arith) k cause

-- Stamps: at first there are none.
pub walk_none : {ls : List ℤ} {path : List ℕ} → Walked ls path (replicate {A = ℕ} 4097 0) 0
walk_none =
    record {
      size = length-replicate {A = ℕ} 4097 0;
      true_ones = λ v k q. absurd (let z = zeros v in omega arith);
      before = λ e q. absurd (omega arith);
    }
  where
    zeros : (v : ℕ) → get_or (replicate {A = ℕ} 4097 0) v 0 ≡ 0
    zeros v =
        by_cases (dec_lt v 4097) (λ l. get_or-replicate {A = ℕ} 4097 v 0 0 l)
        (λ l. get_or-eq_default (replicate {A = ℕ} 4097 0) 0 {n = v} (let q = length-replicate {A = ℕ} 4097 0 in omega arith))

module _ {ls : List ℤ} {path stamps : List ℕ} {i start end : ℕ} (w : Walked ls path stamps i) (f : StandsFrom ls (at path i) start end) where
  -- The clause of this entry has its stamps put in.
  pub walk_more : {stamp : ℕ} {new : List ℕ} → stamp ≡ at path i + 1 → Stamped (Has ls start end) stamp stamps new → Walked ls path new (i + 1)
  walk_more {stamp} {new} is s =
      record {
        size = s.size ∙ w.size;
        true_ones = λ v k q. ⊎_elim (λ same. w.true_ones v k (sym same ∙ q))
            (λ here. let e : at path i ≡ k = let t = here.1 in omega arith in subst (λ j. HasVariable ls j v) e ((from_has f v).1 here.0)) (s.others v);
        before = λ e q v h.
            let same : e ≡ i = omega arith in
            s.marked v ((from_has f v).0 (subst (λ j. HasVariable ls (at path j) v) same h)) ∙ is ∙ add-one (at path i) ∙ ap (λ j. suc (at path j)) (sym same);
      }

  -- The first clause continues the path if it has x ...
  pub joins_first : (X : Variables) (x : ℕ) (b : Bool) → i ≡ 0 → Tells b (Has ls start end x) → Tells b (Joins X ls x path i)
  joins_first X x true z h = Joins.first z (subst (λ j. HasVariable ls (at path j) x) z ((from_has f x).1 h))
  joins_first X x false z h = go
    where
      go : Joins X ls x path i → ⊥
      go (Joins.first _ has) = h ((from_has f x).0 (subst (λ j. HasVariable ls (at path j) x) (sym z) has))
      go (Joins.next e q _) = omega arith

  -- ... and any other if it meets the stamps of the one before.
  pub joins_next : (X : Variables) (x : ℕ) (b : Bool) {stamp : ℕ} → i ≢ 0 → stamp ≡ at path (i - 1) + 1 → Tells b (Meets X ls start end x stamps stamp) → Tells b (Joins X ls x path i)
  joins_next X x true {stamp} some is m =
      let q : i ≡ suc (i - 1) = omega arith in
      Joins.next (i - 1) q (record {
        variable = m.variable;
        deep = m.deep;
        left = w.true_ones m.variable (at path (i - 1))
            (m.stamped ∙ is ∙ add-one (at path (i - 1)));
        right = (from_has f m.variable).1 m.here;
      })
  joins_next X x false {stamp} some is m = go
    where
      go : Joins X ls x path i → ⊥
      go (Joins.first z _) = some z
      go (Joins.next e q s) =
          let same : e ≡ i - 1 = omega arith in
          m (record {
            variable = s.variable;
            here = (from_has f s.variable).0 s.right;
            deep = s.deep;
            stamped = w.before e q s.variable
                s.left ∙ ap (λ j. suc (at path j)) same ∙ sym (is ∙ add-one (at path (i - 1)));
          })
