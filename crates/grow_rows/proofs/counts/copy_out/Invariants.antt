-- The invariant: the rows passed are copied. The row of `at` + 1 is in the table, since n is within the limit.
use Rattle.std.proofs.Common.{◌≡◌, ℕ, ◌+◌, ◌<◌, get_or}
use Rattle.grow_rows.proofs.counts.copy_out.Given as goal

abbrev pub invariant-loop-at : goal.invariant-loop-at
invariant-loop-at l = (u : ℕ) → u < l.at → get_or l.row-items u 0 ≡ get_or l.table (u + 1) 0
