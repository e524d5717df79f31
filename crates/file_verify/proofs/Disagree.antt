-- Rows and sets of a file held against those of a formula, and what 22 then says.
use Prim.Native.Nat.{ℕ, ◌+◌, ◌*◌, ◌≤◌, ◌<◌}
use mathlib.Core.Path.{◌≡◌, refl, sym, ◌∙◌, subst}
use mathlib.Core.Bool.{true}
use mathlib.Core.List.{List, ◌++◌}
use mathlib.Core.Logic.{◌↔◌}
use native.Mathlib.Omega.{arith}
use lib.ListN.{length}
use Rattle.terms.specs.Refusals.{None, First}
use Rattle.formula.specs.Lent.{Formula}
use Rattle.forest_tables.specs.Lent.{Rows, rows}
use Rattle.file_format.specs.Layout.{ForestRows, StandardSets}
use Rattle.file_format.specs.Numbers.{numbers_at}
use Rattle.file_format.specs.Places.{payload_at, third_at, fourth_at, has_sets, count_in, HoldsNumbers}
use Rattle.file_format.specs.Causes.{RightRows, RightSets, ForestFileCause, rows_disagree, sets_disagree}
use Rattle.file_format.proofs.Unique.{rows_unique, sets_unique}
use Rattle.file_layout.specs.InnerLaid.{Laid}
use Rattle.file_layout.proofs.Walks.{next_past}
use Rattle.file_layout.proofs.Spans.{fourth_is, laid_ends}
use Rattle.file_verify.specs.InnerVerified.{classes_in, parents_in, counts_in, rows_held, set_numbers}
use Rattle.file_verify.proofs.Agreement.{three}

module _ (f : Formula) (file : List ℕ) where
  -- Right rows are those that the file holds.
  pub own_rows : f.n ≡ count_in file → {r : Rows} → RightRows f file r → RightRows f file (rows_held file)
  unfolding classes_in parents_in counts_in
  own_rows is {r} right =
      let own = right.0 in
      let p = payload_at (third_at file) in
      let t = (three file p r.classes r.parents r.counts).0 right.1.values in
      let cs = own.classes_many ∙ is in
      let ps = own.parents_many ∙ is in
      let ks = own.counts_many ∙ is in
      let a : r.classes ≡ classes_in file = sym t.classes ∙ (λ i. numbers_at 4 file p (cs i)) in
      let b : r.parents ≡ parents_in file = sym t.parents ∙ (λ i. numbers_at 4 file (p + 4 * cs i) (ps i)) in
      let d : r.counts ≡ counts_in file = sym t.counts ∙ (λ i. numbers_at 4 file (p + 4 * cs i + 4 * ps i) (ks i)) in
      let same : r ≡ rows_held file = λ i. rows (a i) (b i) (d i) in
      subst (RightRows f file) same right

  -- No rows are right where those of the forest are not held.
  pub no_rows : {r : Rows} → ForestRows f r → (HoldsNumbers 4 file (third_at file) (r.classes ++ (r.parents ++ r.counts)) → ⊥)
      → (r' : Rows) → RightRows f file r' → ⊥
  no_rows own not r' right =
      not
      (subst (λ (q : Rows). HoldsNumbers 4 file (third_at file) (q.classes ++ (q.parents ++ q.counts))) (rows_unique f right.0 own) right.1)

  -- The sets are right exactly if the record has the standard sets.
  pub right_sets : (list : List ℕ) → StandardSets f list → HoldsNumbers 2 file (fourth_at file) list ↔ RightSets f file
  right_sets list s = (λ h. (list, s, h), λ r. subst (HoldsNumbers 2 file (fourth_at file)) (sets_unique f r.0 list r.1 s) r.2)

  -- Sets that need more room than the longest file has are not right.
  pub long_sets : (list : List ℕ) → Laid file → StandardSets f list → set_numbers < length list → RightSets f file → ⊥
  long_sets list laid s long r =
      let h = ((right_sets list s).1 r).size in
      let ends = laid_ends file laid in
      omega (arith, ends.fourth)

  -- What 22 says.
  third_before : third_at file ≤ fourth_at file
  third_before = let e = fourth_is file in let n = next_past file (third_at file) in omega arith

  cause_number : {k e : ℕ} → ForestFileCause f file k e → k ≡ 22
  cause_number (rows_disagree n _ _) = n
  cause_number (sets_disagree n _ _ _) = n

  pub rows_first : ((r : Rows) → RightRows f file r → ⊥) → First (ForestFileCause f file) 22 (third_at file)
  rows_first no' = record { holds = rows_disagree refl refl no'; leftmost = left; lowest = λ k c. let q = cause_number c in omega arith }
    where
      left : (k e : ℕ) → ForestFileCause f file k e → third_at file ≤ e
      left k e (rows_disagree _ q _) = omega arith
      left k e (sets_disagree _ q _ _) = let l = third_before in omega arith

  module _ {r : Rows} (right : RightRows f file r) where
    pub sets_first : has_sets file ≡ true → (RightSets f file → ⊥) → First (ForestFileCause f file) 22 (fourth_at file)
    sets_first some no' =
        record { holds = sets_disagree refl refl some no'; leftmost = left; lowest = λ k c. let q = cause_number c in omega arith }
      where
        left : (k e : ℕ) → ForestFileCause f file k e → fourth_at file ≤ e
        left k e (rows_disagree _ _ no'') = absurd (no'' r right)
        left k e (sets_disagree _ q _ _) = omega arith

    pub none_disagree : (has_sets file ≡ true → RightSets f file) → None (ForestFileCause f file)
    none_disagree sets k e (rows_disagree _ _ no') = no' r right
    none_disagree sets k e (sets_disagree _ _ some no') = no' (sets some)
