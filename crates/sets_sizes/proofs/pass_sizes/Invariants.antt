-- The rows of the universals up to a number have the sizes of their sets (Sizes). Each step stores the row of a universal (sizes_more) or passes another
-- variable (sizes_other), and the tops and how many have each stay right for the level that they are over.
use Prim.Native.Nat.{◌+◌, ◌-◌, ◌≤◌}
use Rattle.sets_subtrees.specs.InnerRuns.{Floored}
use Rattle.sets_sizes.specs.InnerNotes.{Notes}
use Rattle.sets_sizes.specs.InnerSizes.{Sizes}
use Rattle.sets_sizes.proofs.pass_sizes.Given as goal

abbrev pub invariant-loop-number : goal.invariant-loop-number
invariant-loop-number l = record {
  most : l.number ≤ l.pass.n + 1;
  floored : Floored l.pass.n l.prefix l.classes l.parents l.floor.level.0 l.floor.place l.floor.from l.tops l.lead l.after;
  sized : Sizes l.pass.scheme l.pass.n l.prefix l.clauses l.classes l.parents l.sizes (l.number - 1);
  noted : Notes l.pass.n l.tops l.clauses l.notes;
}
