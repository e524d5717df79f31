-- The places of the calls that take dependency lists fit 32 bits.
use Prim.Native.Nat.{ℕ, ◌≤◌, ◌<◌}
use mathlib.Core.Path.{refl}
use mathlib.Core.List.{List, [], ◌∷◌}
use mathlib.Core.Logic.{◌⊎◌, inl, inr}
use native.Mathlib.Omega.{arith}
use lib.ListN.{length}
use Rattle.terms.specs.Answers.{TooLong}
use Rattle.terms.specs.Refusals.{At0}
use Rattle.formula.specs.Causes.{VariableCount, PrefixLong, ClausesLong, ClauseCause}
use Rattle.formula.specs.Lent.{Formula}
use Rattle.formula_rules.specs.Rules.{NoRule, PrefixCauseBy, read_as}
use Rattle.forest.specs.Causes.{NotUniversal}
use Rattle.dqbf_lists.specs.Causes.{ListsLong, ListCause, outside, in_block, listed_before, no_universal, twice, ends_inside, check_lists_order}
use Rattle.dqbf_sets.specs.Answers.{set_order}
use Rattle.snowcoddle.proofs.Places.{Small, small_then, small_within, small_at0, small_none, small_zero, small_prefix, small_clauses}

-- the entries of a table of lists, and its length
list_place : {n : ℕ} {es ds : List ℕ} (k p : ℕ) → ListCause n es ds k p → p ≤ length ds
list_place k p (outside _ m _) = let l = m.0 in omega arith
list_place k p (in_block _ m _) = let l = m.0 in omega arith
list_place k p (listed_before _ _ m _ _ _) = let l = m.0 in omega arith
list_place k p (no_universal _ m _) = let l = m.0 in omega arith
list_place k p (twice _ _ m _ _ _) = let l = m.0 in omega arith
list_place k p (ends_inside _ q _) = omega arith

module _ (rule : ℕ) (f : Formula) (ds : List ℕ) where
  -- clauses and lists are short where 2 is not given
  pub small_lists : Small (check_lists_order rule f ds)
  small_lists =
      let long = PrefixLong f.prefix ⊎ (ClausesLong (length f.clauses) ⊎ ListsLong (length ds)) in
      let read = read_as rule f.prefix in
      let tables = PrefixCauseBy rule f.n f.prefix ∷ ClauseCause f.n f.clauses ∷ ListCause f.n read ds ∷ [] in
      small_zero 23 (NoRule rule) (VariableCount f.n ∷ At0 2 long ∷ tables) (small_zero 1 (4096 < f.n) (At0 2 long ∷ tables)
      (small_then (At0 2 long ∷ []) tables (small_at0 2 long)
      (λ none.
      let a : ¬ (8192 < length f.prefix) = λ over. none.0 2 0 (refl, refl, inl over) in
      let b : ¬ (16384 < length f.clauses) = λ over. none.0 2 0 (refl, refl, inr (inl over)) in
      let c : ¬ (16384 < length ds) = λ over. none.0 2 0 (refl, refl, inr (inr over)) in
      small_then (PrefixCauseBy rule f.n f.prefix ∷ []) (ClauseCause f.n f.clauses ∷ ListCause f.n read ds ∷ [])
      (small_prefix rule f.n f.prefix (omega arith))
      (λ _. small_then (ClauseCause f.n f.clauses ∷ []) (ListCause f.n read ds ∷ []) (small_clauses f.n f.clauses (omega arith))
      (λ _. small_within (ListCause f.n read ds) 16384 (omega arith) (λ k p cause. let m = list_place k p cause in omega arith))))))

  pub small_set : (x : ℕ) (P : ℕ → Type 0) (before : List ℕ) → Small (set_order rule f ds x P before)
  small_set x P before =
      let no_universal = NotUniversal f.n (read_as rule f.prefix) x in
      small_then (check_lists_order rule f ds) (At0 13 no_universal ∷ At0 14 (TooLong P before) ∷ []) small_lists
      (λ _. small_zero 13 no_universal (At0 14 (TooLong P before) ∷ []) (small_zero 14 (TooLong P before) [] small_none))
