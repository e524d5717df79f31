-- The prefix as a rule reads it only carries the blocks by that rule: what a promise says of the variables by the table, it says of them by the blocks.
use Prim.Native.Nat.{ℕ}
use mathlib.Core.Path.{◌≡◌, ap, ap₂, fun_ext}
use mathlib.Core.Bool.{Bool, ◌&&◌}
use mathlib.Core.List.{List}
use lib.Dec.{leb}
use Rattle.formula.specs.Meaning.{universal_of}
use Rattle.formula_rules.specs.Rules.{blocks_by, read_as}
use Rattle.formula_rules.proofs.Blocks as read
use Rattle.forest_theory.specs.Reach.{Variables}
use Rattle.forest_tables.specs.Formula.{variables_in, variables, universal}

module _ (rule n : ℕ) (es : List ℕ) where
  pub variables_read : variables n (read_as rule es) ≡ variables_in n (blocks_by rule es)
  variables_read =
      let made : (ℕ → ℕ) → (ℕ → Bool) → Variables = λ lev ex. record { count = n; lev = lev; ex = ex } in
      ap₂ made (fun_ext (read.level_read rule es)) (fun_ext (λ v. read.existential_read rule es v n))

  pub universal_read : (x : ℕ) → universal n (read_as rule es) x ≡ (leb 1 x && leb x n && universal_of (blocks_by rule es) x)
  unfolding universal
  universal_read x = ap (λ (b : Bool). leb 1 x && leb x n && b) (read.universal_read rule es x)
