-- The invariant: the rows before v hold what the lent rows say of their variables, and so do those past n, where both say 0 (FilledTo).
use Rattle.forest_theory.specs.Tables.{row}
use Rattle.grow_passes.proofs.Passes.{FilledTo}
use Rattle.grow_passes.proofs.rows.load.Given as goal

abbrev pub invariant-loop-v : goal.invariant-loop-v
invariant-loop-v l = FilledTo l.n (row l.n l.rows) l.table l.v
