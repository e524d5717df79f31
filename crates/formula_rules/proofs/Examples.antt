-- Worked examples of rule 6.2: neighbours with one quantifier, and empty blocks; and a rule number that is neither 1 nor 2 (rule 8.2).
use Rattle.terms.specs.Says.{Verdict, refused}
use Rattle.terms.specs.declared.Fault.TheVariants.{NoSuchRule}
use Prim.Native.Nat.{ℕ}
use mathlib.Core.Path.{◌≡◌, refl}
use mathlib.Core.List.{List, [], ◌∷◌}
use mathlib.Core.Logic.{inl}
use native.Mathlib.Omega.{arith}
use Rattle.terms.specs.Refusals.{Judged}
use Rattle.terms.proofs.Verdicts.{at0_first, judged_unique}
use Rattle.formula.specs.Meaning.{blocks, level}
use Rattle.formula.specs.InnerLevels.{free_level}
use Rattle.formula.specs.Tables.{cut}
use Rattle.formula_rules.specs.Joined.{in_front, joined_blocks, table_of, joined_prefix}
use Rattle.formula_rules.specs.Rules.{ruled_prefix}

-- e 1, a (empty), e 2, a 3, a 4, e (empty)
abbrev release5 : List ℕ
release5 = 1 ∷ 1 ∷ 0 ∷ 2 ∷ 0 ∷ 1 ∷ 2 ∷ 0 ∷ 2 ∷ 3 ∷ 0 ∷ 2 ∷ 4 ∷ 0 ∷ 1 ∷ 0 ∷ []

-- The empty universal block is dropped, so that the existential ones beside it are one: e 1 2, a 3 4.
pub two_blocks : joined_prefix release5 ≡ 1 ∷ 1 ∷ 2 ∷ 0 ∷ 2 ∷ 3 ∷ 4 ∷ 0 ∷ []
unfolding joined_prefix table_of joined_blocks in_front blocks cut
two_blocks = refl

-- Levels are numbered after joining: 2 is of block 1, 4 of block 2.
pub levels_after : (level (joined_prefix release5) 2 ≡ 1) × (level (joined_prefix release5) 4 ≡ 2)
unfolding joined_prefix table_of joined_blocks in_front blocks cut level free_level
levels_after = (refl, refl)

-- A free variable belongs to block 0 where the empty existential line before a universal one is dropped.
pub free_after : level (joined_prefix (1 ∷ 0 ∷ 2 ∷ 1 ∷ 0 ∷ [])) 2 ≡ 0
unfolding joined_prefix table_of joined_blocks in_front blocks cut level free_level
free_after = refl

-- 23 comes before 1.
pub no_such_rule : (v : Verdict) → Judged (ruled_prefix 3 4097 [] 0) v → v ≡ refused NoSuchRule 0
no_such_rule v judged = judged_unique (ruled_prefix 3 4097 [] 0) v (refused NoSuchRule 0) judged (inl (at0_first 23 (λ q. omega arith, λ q. omega arith)))
