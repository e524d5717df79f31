-- Every cause of a path can be told by computing, and so the verdict on a path.
use Prim.Native.Nat.{ℕ, zero, suc, ◌+◌, ◌<◌}
use mathlib.Core.Path.{◌≡◌, refl, ap, subst, ◌∙◌}
use mathlib.Core.Bool.{Bool, true, false, cond, not, ◌&&◌, ◌||◌}
use mathlib.Core.List.Memᴰ
use mathlib.Core.List.{List, [], ◌∷◌, map, Memᴰ}
use mathlib.Core.Logic.{◌≢◌, ◌⊎◌, inl, inr, ⊎_elim}
use native.Mathlib.Numerals.{add-one}
use native.Mathlib.Omega.{arith}
use borrow.Author.Tests.{ltb-true, lt-ltb, eqb-true, eqb-false}
use lib.Dec.{ltb, eqb}
use lib.IntN.{ℤ}
use lib.ListN.{length}
use Rattle.terms.specs.Says.{Verdict, accepted, refused}
use Rattle.terms.specs.declared.Fault.TheVariants.{WrongPath}
use Rattle.terms.proofs.Common.{clash}
use Rattle.terms.specs.Literals.{variable_of}
use Rattle.terms.specs.Refusals.{Judged}
use Rattle.formula.specs.Meaning.{always_true}
use Rattle.formula.specs.Tables.{at}
use Rattle.forest_theory.specs.Reach.{Variables, Deeper}
use Rattle.forest_theory.specs.InnerSearch.{has}
use Rattle.forest_theory.proofs.Choice.{both, either, or_right}
use Rattle.forest_theory.proofs.Search.{has_member_lem, member_has}
use Rattle.forest_tables.specs.InnerRows.{Tells}
use Rattle.forest_tables.proofs.Readings.{told_both}
use Rattle.path_check.specs.Paths.{clause_at, HasVariable, Shared}
use Rattle.path_check.specs.Causes.{PathCause, empty, is_always_true, without_y}
use Rattle.path_check.specs.InnerWalk.{Joins}
use Rattle.path_check.proofs.Following.{Clean, not_joined, no_cause, clean_more, fails_first, fails_never}

-- A test tells of P, where it comes out true exactly if P holds.
tells_by : {P : Type 0} (b : Bool) → (b ≡ true → P) → (P → b ≡ true) → Tells b P
tells_by true there back = there refl
tells_by false there back = λ p. clash (back p) refl

-- What can be told is so or not, and is so where it is not absent.
pub tells_or : {P : Type 0} (b : Bool) → Tells b P → P ⊎ (P → ⊥)
tells_or true h = inl h
tells_or false h = inr h

pub steady : {P : Type 0} (b : Bool) → Tells b P → ((P → ⊥) → ⊥) → P
steady true h some = h
steady false h some = absurd (some h)

pub member_tells : (v : ℕ) (list : List ℕ) → Tells (has v list) (Memᴰ v list)
member_tells v list = tells_by (has v list) (has_member_lem list) member_has

-- The tests of a clause that has a variable, of an existential deeper than x, and of two clauses that share one.
unfoldable pub has_variable : List ℤ → ℕ → ℕ → Bool
has_variable ls k v = has v (map variable_of (clause_at ls k))

unfoldable pub is_deeper : Variables → ℕ → ℕ → Bool
is_deeper X x v = X.ex v && ltb (X.lev x) (X.lev v)

unfoldable pub common : Variables → ℕ → List ℕ → List ℕ → Bool
common X x [] others = false
common X x (v ∷ list) others = (is_deeper X x v && has v others) || common X x list others

unfoldable pub shares : Variables → List ℤ → ℕ → ℕ → ℕ → Bool
shares X ls x k l = common X x (map variable_of (clause_at ls k)) (map variable_of (clause_at ls l))

pub has_tells : (ls : List ℤ) (k v : ℕ) → Tells (has_variable ls k v) (HasVariable ls k v)
unfolding has_variable
has_tells ls k v = member_tells v (map variable_of (clause_at ls k))

deep_true : (X : Variables) (x v : ℕ) → is_deeper X x v ≡ true → Deeper X x v
unfolding is_deeper
deep_true X x v t = let (e, l) = both (X.ex v) (ltb (X.lev x) (X.lev v)) t in record { existential = e; deep = ltb-true (X.lev x) (X.lev v) l }

true_deep : {X : Variables} {x v : ℕ} → Deeper X x v → is_deeper X x v ≡ true
unfolding is_deeper
true_deep {X} {x} {v} d = ap (λ b. b && ltb (X.lev x) (X.lev v)) d.existential ∙ lt-ltb (X.lev x) (X.lev v) d.deep

common_true : (X : Variables) (x : ℕ) (list others : List ℕ) → common X x list others ≡ true → (v : ℕ) × Deeper X x v × Memᴰ v list × Memᴰ v others
unfolding common
common_true X x [] others t = absurd (clash t refl)
common_true X x (v ∷ list) others t = go (either (is_deeper X x v && has v others) (common X x list others) t) (λ h. common_true X x list others h)
  where
    go : ((is_deeper X x v && has v others) ≡ true) ⊎ (common X x list others ≡ true) → (common X x list others ≡ true → (w : ℕ) × Deeper X x w × Memᴰ w list × Memᴰ w others)
        → (w : ℕ) × Deeper X x w × Memᴰ w (v ∷ list) × Memᴰ w others
    go (inl h) later = let (d, m) = both (is_deeper X x v) (has v others) h in (v, deep_true X x v d, Memᴰ.head refl, has_member_lem others m)
    go (inr h) later = let (w, d, l, m) = later h in (w, d, Memᴰ.tail l, m)

true_common : {X : Variables} {x v : ℕ} (list others : List ℕ) → Deeper X x v → Memᴰ v list → Memᴰ v others → common X x list others ≡ true
unfolding common
true_common [] others d l m = absurd (Memᴰ.not-nil l)
true_common {X} {x} {v} (w ∷ list) others d l m = ⊎_elim here (λ n. or_right (is_deeper X x w && has w others) (common X x list others) (true_common list others d n m)) (Memᴰ.cases_cons l)
  where
    here : v ≡ w → ((is_deeper X x w && has w others) || common X x list others) ≡ true
    here q = ap (λ b. b || common X x list others) (ap (λ b. b && has w others) (subst (λ u. is_deeper X x u ≡ true) q (true_deep d)) ∙ subst (λ u. has u others ≡ true) q (member_has m))

pub shares_tells : (X : Variables) (ls : List ℤ) (x k l : ℕ) → Tells (shares X ls x k l) (Shared X ls x k l)
unfolding shares
shares_tells X ls x k l =
    tells_by (shares X ls x k l) (λ t.
    let (v, d, m, n) = common_true X x (map variable_of (clause_at ls k)) (map variable_of (clause_at ls l)) t in
    record { variable = v; deep = d; left = m; right = n })
    (λ s. true_common (map variable_of (clause_at ls k)) (map variable_of (clause_at ls l)) s.deep s.left s.right)

module _ (X : Variables) (ls : List ℤ) (x y : ℕ) (path : List ℕ) where
  -- Whether an entry continues the path, and whether it fails.
  unfoldable pub joins : ℕ → Bool
  joins zero = has_variable ls (at path 0) x
  joins (suc e) = shares X ls x (at path e) (at path (suc e))

  unfoldable pub fails : ℕ → Bool
  fails i = cond (always_true (clause_at ls (at path i))) true (cond (joins i) (eqb (suc i) (length path) && not (has_variable ls (at path i) y)) true)

  joins_tells : (i : ℕ) → Tells (joins i) (Joins X ls x path i)
  unfolding joins
  joins_tells zero = told_both (has_variable ls (at path 0) x) (λ h. Joins.first refl h) first (has_tells ls (at path 0) x)
    where
      first : Joins X ls x path 0 → HasVariable ls (at path 0) x
      first (Joins.first _ h) = h
      first (Joins.next e q _) = absurd (omega arith)
  joins_tells (suc e) = told_both (shares X ls x (at path e) (at path (suc e))) (λ s. Joins.next e refl s) next (shares_tells X ls x (at path e) (at path (suc e)))
    where
      next : Joins X ls x path (suc e) → Shared X ls x (at path e) (at path (suc e))
      next (Joins.first q _) = absurd (omega arith)
      next (Joins.next d q s) = let same : d ≡ e = omega arith in subst (λ j. Shared X ls x (at path j) (at path (suc e))) same s

  fails_tells : (i : ℕ) → i < length path → Tells (fails i) (PathCause X ls x y path 24 i)
  unfolding fails
  fails_tells i l = go (always_true (clause_at ls (at path i))) (joins i) (eqb (suc i) (length path)) (has_variable ls (at path i) y) refl (joins_tells i) refl (has_tells ls (at path i) y)
    where
      go : (t j e h : Bool) → always_true (clause_at ls (at path i)) ≡ t → Tells j (Joins X ls x path i) → eqb (suc i) (length path) ≡ e → Tells h (HasVariable ls (at path i) y)
          → Tells (cond t true (cond j (e && not h) true)) (PathCause X ls x y path 24 i)
      go true j e h t js last hy = is_always_true refl l t
      go false false e h t js last hy = not_joined i l js
      go false true false h t js last hy = no_cause l t js (λ q. absurd (eqb-false (suc i) (length path) last q))
      go false true true true t js last hy = no_cause l t js (λ _. hy)
      go false true true false t js last hy = without_y refl (eqb-true (suc i) (length path) last) hy

  -- The verdict on so many entries from i on, and on the whole path.
  unfoldable pub scan : ℕ → ℕ → Verdict
  scan zero i = accepted
  scan (suc m) i = cond (fails i) (refused WrongPath i) (scan m (suc i))

  unfoldable pub judge : Verdict
  judge = cond (eqb (length path) 0) (refused WrongPath 0) (scan (length path) 0)

  scan_judged : (m i : ℕ) → i + m ≡ length path → length path ≢ 0 → Clean (PathCause X ls x y path) i → Judged (PathCause X ls x y path ∷ []) (scan m i)
  unfolding scan
  scan_judged zero i q some clean = (fails_never clean some (λ l. omega arith), tt)
  scan_judged (suc m) i q some clean = go (fails i) (fails_tells i (omega arith)) (λ next. scan_judged m (suc i) (omega arith) some next)
    where
      go : (b : Bool) → Tells b (PathCause X ls x y path 24 i)
          → (Clean (PathCause X ls x y path) (suc i) → Judged (PathCause X ls x y path ∷ []) (scan m (suc i))) → Judged (PathCause X ls x y path ∷ [])
          (cond b (refused WrongPath i) (scan m (suc i)))
      go true cause on = inl (fails_first clean cause)
      go false none on = on (rw (← add-one i) (clean_more clean none))

  pub judge_judged : Judged (PathCause X ls x y path ∷ []) judge
  unfolding judge
  judge_judged = go (eqb (length path) 0) refl
    where
      go : (b : Bool) → eqb (length path) 0 ≡ b → Judged (PathCause X ls x y path ∷ []) (cond b (refused WrongPath 0) (scan (length path) 0))
      go true q = inl (fails_first (λ e l. absurd (omega arith)) (empty refl refl (eqb-true (length path) 0 q)))
      go false q = scan_judged (length path) 0 (omega arith) (eqb-false (length path) 0 q) (λ e l. absurd (omega arith))
