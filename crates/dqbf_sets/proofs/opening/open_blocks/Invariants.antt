-- The rows of the variables passed tell which of them are over the floor (ToldUpto); each one more is told by its own row.
use Rattle.dqbf_sets.specs.Inner.{Over}
use Rattle.dqbf_sets.proofs.Opened.{ToldUpto}
use Rattle.dqbf_sets.proofs.opening.open_blocks.Given as goal

abbrev pub invariant-loop-passed : goal.invariant-loop-passed
invariant-loop-passed l = ToldUpto (Over l.n l.levels l.universals l.floor.0) l.n l.rows l.passed
