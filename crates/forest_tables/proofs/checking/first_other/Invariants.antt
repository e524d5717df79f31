-- The rows of all variables before v are those of the table, so that the first one found to be another is the first of all.
use Prim.Native.Nat.{ℕ, ◌≤◌, ◌<◌}
use mathlib.Core.Path.{◌≡◌}
use lib.ListN.{get_or}
use Rattle.forest_theory.specs.Tables.{row}
use Rattle.forest_tables.proofs.checking.first_other.Given as goal

abbrev pub invariant-loop-number : goal.invariant-loop-number
invariant-loop-number l = (w : ℕ) → 1 ≤ w → w < l.number → row l.n l.rows w ≡ get_or l.table w 0
