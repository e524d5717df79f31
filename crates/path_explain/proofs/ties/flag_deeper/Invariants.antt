-- The invariant: the variables before v are flagged as they are deeper than x, and all others have no flag.
use Rattle.forest_theory.specs.Reach.{Deeper}
use Rattle.forest_tables.specs.InnerTabled.{tabled}
use Rattle.path_explain.proofs.Flagging.{Before}
use Rattle.path_explain.proofs.ties.flag_deeper.Given as goal

abbrev pub invariant-loop-v : goal.invariant-loop-v
invariant-loop-v l = Before (Deeper (tabled l.n l.levels l.universals) l.x.0) l.flags l.v
