-- The rows of all variables before v are right, so that the first one found wrong is the first bad row.
use Prim.Native.Nat.{ℕ, ◌≤◌, ◌<◌}
use Rattle.forest_tables.specs.InnerRows.{RightRow}
use Rattle.forest_tables.proofs.rows.first_bad.Given as goal

abbrev pub invariant-loop-number : goal.invariant-loop-number
invariant-loop-number l = (w : ℕ) → 1 ≤ w → w < l.number → RightRow l.n l.levels l.universals l.classes l.parents w
