-- The outcome of expanding, once the set is found: the set as it stands in a table, its copies, and the refusals of the result in their order.
use Prim.Native.Nat.{ℕ, zero, suc, ◌+◌, ◌-◌, ◌≤◌}
use mathlib.Core.Path.{◌≡◌, refl, sym, ap, ◌∙◌, subst}
use mathlib.Core.Bool.{Bool, true, false, cond}
use mathlib.Core.List.{List, [], ◌∷◌, Memᴰ}
use mathlib.Core.Logic.{inl}
use native.Mathlib.Omega.{arith}
use lib.Dec.{eqb}
use lib.ListN.{length, get_or, take}
use lib.Seq.{sets, length-sets}
use Rattle.std.specs.Prelude.{Ok, Err}
use Rattle.terms.specs.Limits.{most_variables}
use Rattle.terms.specs.InnerLimits.{variable_rows}
use Rattle.terms.specs.Says.{counts_said, Answer, fault_number, refused}
use Rattle.terms.specs.Refusals.{Causes, At0}
use Rattle.terms.specs.declared.Counts.{Counts}
use Rattle.terms.specs.declared.Fault.TheVariants.{TooManyVariables}
use Rattle.terms.proofs.Listed.{listed_one, listed_most}
use Rattle.terms.proofs.Overwritten.{stored_overwritten, overwritten_front}
use Rattle.terms.proofs.Answers.{carry_settles}
use Rattle.terms.proofs.Orders.{Carries, one_more, same_order, carries_then, behind_none}
use Rattle.terms.proofs.Verdicts.{at0_first, at0_none}
use Rattle.formula.specs.Lent.{Formula, formula_of}
use Rattle.formula.specs.InnerLevels.{SoundPrefix}
use Rattle.forest_tables.proofs.Agreeing.{lawful}
use Rattle.expand_clauses.specs.InnerCopies.{copy_from, copy_of}
use Rattle.expand_clauses.specs.InnerCopied.{tabled, Copies}
use Rattle.expand.specs.Promise.{ResultTables, LeavesFormula, SetOf, expanded_by, OfExpanded, ManyVariables, Long, Short, ExpandsBy}
use Rattle.expand.specs.InnerOrders.{result_order}
use Rattle.expand.specs.InnerWriting.{expanded_with, write_order, Fits}
use Rattle.expand_clauses.proofs.Tied.{prefix_same, clauses_same}

-- The expanded formula by the numbers of the copies is that by the members.
pub expanded_same : (x : ℕ) (members : List ℕ) (f : Formula) → expanded_with (f.n + length members) x (copy_of f.n members) f ≡ expanded_by f x members
expanded_same x members f = λ i. formula_of (f.n + length members) (prefix_same f.n members x f.prefix i) (clauses_same f.n members x f.clauses i)

-- no copy has a number over n and the members
pub copy_number : (n : ℕ) (members : List ℕ) (v : ℕ) → copy_from (suc n) members v ≤ n + length members
unfolding copy_from
copy_number n [] v = omega arith
copy_number n (member ∷ members) v = by (eqb member v) (copy_number (suc n) members v)
  where
    by : (b : Bool) → copy_from (suc (suc n)) members v ≤ suc n + length members
        → cond b (suc n) (copy_from (suc (suc n)) members v) ≤ n + suc (length members)
    by true l = omega arith
    by false l = omega arith

rows_most : (most : ℕ) (list : List ℕ) → ((v : ℕ) → Memᴰ v list → v ≤ most) → (k : ℕ) → get_or list k 0 ≤ most
rows_most most [] low k = omega arith
rows_most most (a ∷ list) low zero = low a (Memᴰ.head refl)
rows_most most (a ∷ list) low (suc k) = rows_most most list (λ v m. low v (Memᴰ.tail m)) k

-- The set is within the variables, and so are the copies of its members.
module _ (f : Formula) (x : ℕ) (sound : SoundPrefix f.n f.prefix) {members : List ℕ} (set : SetOf f x members) where
  pub few_members : length members ≤ f.n
  few_members = listed_most _ f.n members (λ v d. (lawful f.n f.prefix).within v d.existential) set

  pub low_members : (k : ℕ) → get_or members k 0 ≤ most_variables
  low_members k =
      let low = rows_most f.n members (λ v m. ((lawful f.n f.prefix).within v (set.each v m).existential).1) k in
      omega (arith, sound.few)

  pub right_copies : {table : List ℕ} → (length table ≡ variable_rows) × ((v : ℕ) → tabled table v ≡ copy_of f.n members v) → Copies table
  right_copies (size, rows) = record { size = size; most = λ v. omega (arith, sound.few, rows v, copy_number f.n members v, few_members) }

-- The set as it was found: the part of the table that is lent on.
module _ (f : Formula) (x : ℕ) (sound : SoundPrefix f.n f.prefix) {before after : List ℕ} {size : ℕ} (room : f.n ≤ length before) where
  pub found_room : ((list : List ℕ) × SetOf f x list × (size ≡ length list) × (after ≡ sets before 0 list)) → size ≤ length after
  found_room (list, set, is, put) = omega (arith, few_members f x sound set, ap length put, length-sets before 0 list)

  pub found_set : ((list : List ℕ) × SetOf f x list × (size ≡ length list) × (after ≡ sets before 0 list)) → SetOf f x (take (size - 0) after)
  found_set (list, set, is, put) =
      let short : length list ≤ length before = omega (arith, few_members f x sound set) in
      let all : size - 0 ≡ length list = omega arith in
      subst (SetOf f x) (sym (ap (λ (k : ℕ). take k after) all ∙ ap (take (length list)) (put ∙ stored_overwritten list before short) ∙ overwritten_front list before)) set

-- What is promised by one order is promised by another that says as much.
pub carry_expands : (f : Formula) (x : ℕ) (out out' : ResultTables) (r : Answer Counts) (order order' : List Causes)
    → Carries order order' → ExpandsBy order f x out out' r → ExpandsBy order' f x out out' r
carry_expands f x out out' r =
    carry_settles (λ (counts : ℕ × ℕ × ℕ). OfExpanded f x (LeavesFormula out out' counts.0 counts.1 counts.2)) (out' ≡ out) (counts_said r)

module _ (f : Formula) (x : ℕ) {members : List ℕ} (set : SetOf f x members) (out : ResultTables) where
  abbrev result : Formula
  result = expanded_by f x members

  -- There is one list of the set, so that what holds of the expanded formula holds of the result by this list; and the other way round.
  of_result : (P : Formula → Type 0) → OfExpanded f x P → P result
  of_result P (list, listed, p) = subst (λ (l : List ℕ). P (expanded_by f x l)) (listed_one list members listed set) p

  there : (P : Formula → Type 0) (j k p : ℕ) → At0 j (P result) k p → At0 j (OfExpanded f x P) k p
  there P j k p (is, at, holds) = (is, at, (members, set, holds))

  back : (P : Formula → Type 0) (j k p : ℕ) → At0 j (OfExpanded f x P) k p → At0 j (P result) k p
  back P j k p (is, at, holds) = (is, at, of_result P holds)

  carries : Carries (write_order out result) (At0 2 (OfExpanded f x Long) ∷ At0 14 (OfExpanded f x (Short out)) ∷ [])
  carries =
      one_more (At0 2 (Long result)) (At0 2 (OfExpanded f x Long)) (there Long 2) (back Long 2)
      (one_more (At0 14 (Short out result)) (At0 14 (OfExpanded f x (Short out))) (there (Short out) 14) (back (Short out) 14) (same_order []))

  -- The result has too many variables; or it is written, or refused as what is to be written is.
  pub expand_many : ManyVariables result → ExpandsBy (result_order f x out) f x out out (refused TooManyVariables 0)
  expand_many over = (inl (at0_first 1 (members, set, over)), refl)

  pub expand_filled : (out' : ResultTables) → ¬ ManyVariables result → (r : Answer Counts)
      → Fits result out out' r → ExpandsBy (result_order f x out) f x out out' r
  expand_filled out' few = by
    where
      whole : Carries (write_order out result) (result_order f x out)
      whole =
          carries_then carries
          (behind_none (At0 1 (OfExpanded f x ManyVariables) ∷ []) (At0 2 (OfExpanded f x Long) ∷ At0 14 (OfExpanded f x (Short out)) ∷ [])
          (at0_none 1 (λ w. few (of_result ManyVariables w)), tt))

      by : (r : Answer Counts) → Fits result out out' r → ExpandsBy (result_order f x out) f x out out' r
      by (Ok counts) (none, leaves) = (whole.none none, (members, set, leaves))
      by (Err refusal) (first, same) = (whole.first (fault_number refusal.0) refusal.1 first, same)
