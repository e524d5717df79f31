-- The invariant: the class rows before v name their classes, no row points higher than itself, and the rows stand for what they stood for (SettledTo). The
-- row of v points to itself or to a row before it, which is exact already.
use Rattle.grow_passes.proofs.Passes.{SettledTo}
use Rattle.grow_passes.proofs.rows.settle.Given as goal

abbrev pub invariant-loop-v : goal.invariant-loop-v
invariant-loop-v l = SettledTo l.n l.initial.classes l.classes l.v
