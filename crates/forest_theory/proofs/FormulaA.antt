-- The errors of rule 17.3 that look right, refuted by computing on formula A. (That P1 to P10 hold of the calls is the crate `grow_cases`.)
use Prim.Native.Nat.{ℕ, suc, ◌≤◌, ◌<◌}
use mathlib.Core.Path.{◌≡◌, refl, subst}
use mathlib.Core.Bool.{true, false}
use mathlib.Core.List.Memᴰ
use mathlib.Core.List.{List, [], ◌∷◌, ◌++◌, Memᴰ}
use mathlib.Core.Logic.Iff
use mathlib.Core.Logic.{◌↔◌}
use native.Mathlib.Omega.{arith}
use lib.ListN.{get_or}
use lib.Dec.{lit≤, leb}
use borrow.Author.Tests.{le-leb, leb-true}
use Rattle.forest_theory.specs.Reach.{Variables, From, Joined, Reach, Depends}
use Rattle.forest_theory.specs.InnerVariables.{Lawful}
use Rattle.forest_theory.specs.Tables.{Table, row, lent, WellFormed, Above, EntryPoint}
use Rattle.forest_theory.specs.InnerClimb.{Climbed, climb_by, climb}
use Rattle.forest_theory.specs.Forest.{Forest}
use Rattle.forest_theory.specs.InnerSearch.{has, meets, keep, put_back, find, see, spread, reached, reaches, is_from, sift, set_of}
use Rattle.forest_theory.specs.InnerFusing.{fill, classes_up, marks, goes_before, under, fuse_class, fuse_parent, Rows, table_of, rows_by}
use Rattle.forest_theory.specs.InnerFusing.{fuse_marks, fuse, fuse_all, singles, forest_of}
use Rattle.forest_theory.proofs.Growth.{forest_represents, forest_exists}
use Rattle.forest_theory.proofs.Climb.{climb_entry, entry_one, above_falls}
use Rattle.forest_theory.proofs.Reach.{joined_sym}
use Rattle.forest_theory.proofs.Forest.{forest_one}
use Rattle.forest_theory.proofs.Search.{cons_all, has_member_lem, reaches_true, reaches_false, from_test, set_of_depends}

-- Blocks e 1 2, a 3, e 4 5, a 6, e 7 8 9.
abbrev existentials : List ℕ
existentials = 1 ∷ 2 ∷ 4 ∷ 5 ∷ 7 ∷ 8 ∷ 9 ∷ []

-- The variables of formula A.
abbrev pub A : Variables
A = record { count = 9; lev = λ v. get_or (0 ∷ 1 ∷ 1 ∷ 2 ∷ 3 ∷ 3 ∷ 4 ∷ 5 ∷ 5 ∷ 5 ∷ []) v 0; ex = λ v. has v existentials }

-- Clauses {3 4 7} {-4 8} {6 9} {5 9} {1 5}.
abbrev pub clauses : List (List ℕ)
clauses = (3 ∷ 4 ∷ 7 ∷ []) ∷ (4 ∷ 8 ∷ []) ∷ (6 ∷ 9 ∷ []) ∷ (5 ∷ 9 ∷ []) ∷ (1 ∷ 5 ∷ []) ∷ []

-- A with a clause more.
abbrev pub with : List ℕ → List (List ℕ)
with C = clauses ++ (C ∷ [])

-- B differs from A in that 3 shares a clause with 7 only: {3 7} {4 7} {-4 8}.
abbrev B : List (List ℕ)
B = (3 ∷ 7 ∷ []) ∷ (4 ∷ 7 ∷ []) ∷ (4 ∷ 8 ∷ []) ∷ []

-- What antt computes.
record Computed : Type 0 where
  forest_79 : forest_of A (with (7 ∷ 9 ∷ [])) ≡ record { classes = 1 ∷ 2 ∷ 0 ∷ 4 ∷ 4 ∷ 0 ∷ 7 ∷ 8 ∷ 7 ∷ []; parents = 0 ∷ 0 ∷ 0 ∷ 1 ∷ 0 ∷ 0 ∷ 4 ∷ 4 ∷ 0 ∷ [] }
  set_3_B : set_of A B 3 ≡ 4 ∷ 7 ∷ 8 ∷ []
  climb_3_7_B : climb A (table_of A (forest_of A B)) 3 7 0 ≡ record { top = 4; rises = 1 }
  too_far_4 : reaches (is_from A 4) clauses 3 4 ≡ false
  too_far_8 : reaches (is_from A 4) clauses 3 8 ≡ false
  through : reaches (λ v. leb 4 (A.lev v)) (with (6 ∷ 8 ∷ [])) 8 9 ≡ true
  not_through : reaches (is_from A 0) (with (6 ∷ 8 ∷ [])) 8 9 ≡ false

-- It computes so.
computed : Computed
unfolding has fill classes_up marks goes_before under fuse_class fuse_parent table_of lent row rows_by fuse_marks fuse fuse_all singles forest_of
    climb climb_by set_of sift reached is_from meets reaches keep put_back find see spread
computed = record { forest_79 = refl; set_3_B = refl; climb_3_7_B = refl; too_far_4 = refl; too_far_8 = refl; through = refl; not_through = refl }

-- Its existentials are in range.
pub A-lawful : Lawful A
A-lawful = record { within = λ v e. all v (has_member_lem existentials e) }
  where
    all : (v : ℕ) → Memᴰ v existentials → (1 ≤ v) × (v ≤ 9)
    all = let P : ℕ → Type 0 = λ v. (1 ≤ v) × (v ≤ 9) in
        cons_all P (lit≤ tt, lit≤ tt) (cons_all P (lit≤ tt, lit≤ tt) (cons_all P (lit≤ tt, lit≤ tt) (cons_all P (lit≤ tt, lit≤ tt)
        (cons_all P (lit≤ tt, lit≤ tt) (cons_all P (lit≤ tt, lit≤ tt) (cons_all P (lit≤ tt, lit≤ tt) (λ n m. absurd (Memᴰ.not-nil m))))))))

-- The forest is what was computed.
pub forest_by : {cs : List (List ℕ)} {R : Rows} → forest_of A cs ≡ R → Forest A (Joined cs) (table_of A R)
forest_by {cs} e = subst (λ (R : Rows). Forest A (Joined cs) (table_of A R)) e (forest_exists A-lawful cs)

-- The set is what was computed.
set_by : {cs : List (List ℕ)} {x : ℕ} {ys : List ℕ} → set_of A cs x ≡ ys → (y : ℕ) → Depends A (Joined cs) x y ↔ Memᴰ y ys
set_by {cs} {x} e y = subst (λ (l : List ℕ). Depends A (Joined cs) x y ↔ Memᴰ y l) e (Iff.symm (set_of_depends A-lawful))

-- The entry point is where the climb ended.
entry_by : {x e k : ℕ} (y : ℕ) {W : Table} → WellFormed A W → A.ex y ≡ true → A.lev x < A.lev y
    → climb A W (suc (A.lev x)) (W.cls y) 0 ≡ record { top = e; rises = k } → EntryPoint A W x y e k
entry_by {x} y {W} formed ex l e = subst (λ (c : Climbed). EntryPoint A W x y c.top c.rises) e (climb_entry formed y ex l)

-- The errors that look right, each against what holds.
pub record Refuted : Type 0 where
  -- One existential block too far in, 3 loses 4 and 8.
  pub too_far_4 : Reach (Joined clauses) (From A 4) 3 4 → ⊥
  pub too_far_8 : Reach (Joined clauses) (From A 4) 3 8 → ⊥
  -- With {6 8} added, stepping on the universal 6 joins 8 and 9 (against rule 2.2), which nothing else does at any level.
  pub through : Reach (Joined (with (6 ∷ 8 ∷ []))) (λ v. 4 ≤ A.lev v) 8 9
  pub not_through : Reach (Joined (with (6 ∷ 8 ∷ []))) (From A 0) 8 9 → ⊥
  -- In B the entry point of 3 for 7 is 4. The deepest class, 7 itself, is not the entry point, and taking it loses 4, which is in the set.
  pub least : EntryPoint A (table_of A (forest_of A B)) 3 7 4 1
  pub not_deepest : (k : ℕ) → EntryPoint A (table_of A (forest_of A B)) 3 7 7 k → ⊥
  pub lost : (k : ℕ) → Above (table_of A (forest_of A B)) 7 4 k → ⊥
  pub in_set : Depends A (Joined B) 3 4
  -- 7 and 9 merged without the chains over them is no forest.
  pub unmerged : Forest A (Joined (with (7 ∷ 9 ∷ []))) (lent A (1 ∷ 2 ∷ 0 ∷ 4 ∷ 5 ∷ 0 ∷ 7 ∷ 8 ∷ 7 ∷ []) (0 ∷ 0 ∷ 0 ∷ 0 ∷ 1 ∷ 0 ∷ 4 ∷ 4 ∷ 0 ∷ [])) → ⊥

-- The forest of B is well formed.
B-formed : WellFormed A (table_of A (forest_of A B))
B-formed = (forest_represents A-lawful B).formed

-- All of them are refuted.
pub refuted : Refuted
unfolding table_of lent row has fill fuse_class fuse_parent fuse_marks fuse fuse_all singles forest_of rows_by marks classes_up under goes_before
refuted = record {
  too_far_4 = reaches_false from_test computed.too_far_4;
  too_far_8 = reaches_false from_test computed.too_far_8;
  through = (reaches_true (λ v. (le-leb 4 (A.lev v), leb-true 4 (A.lev v)))).0 computed.through;
  not_through = reaches_false from_test computed.not_through;
  least = least;
  not_deepest = λ k h. let e = (entry_one B-formed least h).0 in omega arith;
  lost = λ k a. omega (arith, above_falls B-formed a);
  in_set = (set_by computed.set_3_B 4).1 (Memᴰ.head refl);
  unmerged = λ f. let e = (forest_one joined_sym f (forest_by computed.forest_79) 5).0 in omega arith;
}
  where
    least : EntryPoint A (table_of A (forest_of A B)) 3 7 4 1
    least = entry_by 7 B-formed refl (lit≤ tt) computed.climb_3_7_B
