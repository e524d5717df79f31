-- The rows of the sizes: how the pass over all universals goes on, and that what it counts is the size of the set.
use Prim.Native.Nat.{ℕ, ◌+◌, ◌≤◌, ◌<◌}
use mathlib.Core.Path.{◌≡◌, sym, ◌∙◌, subst}
use mathlib.Core.Bool.{true, false}
use mathlib.Core.List.{List, []}
use mathlib.Core.Logic.{by_cases}
use native.Mathlib.Decide.{ℕ_discrete}
use native.Mathlib.Omega.{arith}
use lib.IntN.{ℤ}
use lib.ListN.{length, get_or, set}
use lib.Seq.{get_or-set_same, get_or-set_other}
use Rattle.terms.specs.declared.Scheme.{Scheme}
use Rattle.terms.proofs.Common.{by_test}
use Rattle.formula.specs.Lent.{formula_of}
use Rattle.formula.specs.Meaning.{level}
use Rattle.forest_theory.specs.Counts.{Numbered}
use Rattle.forest_theory.specs.Tables.{lent, WellFormed}
use Rattle.forest_tables.specs.Formula.{variables, universal}
use Rattle.forest_tables.specs.Lent.{rows}
use Rattle.forest_tables.proofs.Agreeing.{universal_within}
use Rattle.forest_climb.specs.InnerSearch.{TopRows}
use Rattle.forest_members.specs.declared.Asked.TheVariants.{Set}
use Rattle.forest_members.specs.InnerPicked.{pick, picked}
use Rattle.forest_members.proofs.Picked.{picked_most}
use Rattle.forest.specs.Answers.{MembersBy}
use Rattle.sets_occurrences.specs.InnerThreads.{Closed}
use Rattle.sets.proofs.AllSets.{set_picked}
use Rattle.sets_sizes.specs.InnerSizes.{TellsSize, SizeRow, Sizes}

-- What is told is at most n.
pub told_most : (scheme : Scheme) (n : ℕ) (tops : List ℕ) (ls : List ℤ) (x size : ℕ) → TellsSize scheme n tops ls x size → size ≤ n
told_most scheme n tops ls x size (flags, _, is) = let most = picked_most (pick Set n flags tops) n in omega arith

module _ (scheme : Scheme) (n : ℕ) (es : List ℕ) (ls : List ℤ) (classes parents : List ℕ) where
  abbrev S : ℕ → ℕ → Type 0
  S = MembersBy scheme (formula_of n es ls) (rows classes parents [])

  abbrev Filled : List ℕ → ℕ → Type 0
  Filled = Sizes scheme n es ls classes parents

  -- What is told by the tops over the level of x is the size of its set.
  pub told_numbered : n ≤ 4096 → Closed ls → WellFormed (variables n es) (lent (variables n es) classes parents) → (x floor : ℕ) (tops : List ℕ)
      → floor ≡ level es x → TopRows (variables n es) (lent (variables n es) classes parents) floor tops
      → (size : ℕ) → TellsSize scheme n tops ls x size → Numbered (S x) size
  told_numbered few closed formed x floor tops low over size (flags, entered, is) =
      record {
        list = picked (pick Set n flags tops) n;
        listed = set_picked scheme n es ls classes parents few closed formed x floor tops flags low over entered;
        size = is;
      }

  -- At first every row is 0.
  pub sizes_none : (sizes : List ℕ) → ((v : ℕ) → get_or sizes v 0 ≡ 0) → Filled sizes 0
  sizes_none sizes zero = (
    λ x l. by_test (universal n es x) (λ u. let low = (universal_within n es x u).0 in absurd (omega arith))
        (λ u. subst (λ b. SizeRow b (S x) (get_or sizes x 0)) (sym u) (zero x)),
    λ x l. zero x,
  )

  module _ (sizes : List ℕ) (m x : ℕ) (is : x ≡ m + 1) (filled : Filled sizes m) where
    -- The row of a universal is stored ...
    pub sizes_more : (size : ℕ) → x < length sizes → universal n es x ≡ true → Numbered (S x) size → Filled (set sizes x size) (m + 1)
    sizes_more size l u numbered = (
      λ y low. by_cases (ℕ_discrete y x)
          (λ q. subst (λ v. SizeRow (universal n es v) (S v) (get_or (set sizes x size) v 0)) (sym q)
          (subst (λ b. SizeRow b (S x) (get_or (set sizes x size) x 0)) (sym u) (subst (Numbered (S x)) (sym (get_or-set_same sizes x size 0 l)) numbered)))
          (λ other. subst (SizeRow (universal n es y) (S y)) (sym (get_or-set_other sizes x y size 0 other)) (filled.0 y (omega arith))),
      λ y past. get_or-set_other sizes x y size 0 (λ q. omega arith) ∙ filled.1 y (omega arith),
    )

    -- ... and that of any other variable stays 0.
    pub sizes_other : universal n es x ≡ false → Filled sizes (m + 1)
    sizes_other u = (
      λ y low. by_cases (ℕ_discrete y x)
          (λ q. subst (λ v. SizeRow (universal n es v) (S v) (get_or sizes v 0)) (sym q)
          (subst (λ b. SizeRow b (S x) (get_or sizes x 0)) (sym u) (filled.1 x (omega arith))))
          (λ other. filled.0 y (omega arith)),
      λ y past. filled.1 y (omega arith),
    )
