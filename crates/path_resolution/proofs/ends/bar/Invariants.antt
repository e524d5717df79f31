-- What is barred before v: the two rows of v get the negation of what tells whether it is an existential deeper than x (bar_more).
use Rattle.forest_tables.specs.InnerTabled.{tabled}
use Rattle.path_resolution.proofs.Reaching.{BarredBefore}
use Rattle.path_resolution.proofs.ends.bar.Given as goal

abbrev pub invariant-loop-v : goal.invariant-loop-v
invariant-loop-v l = BarredBefore (tabled l.n l.levels l.universals) l.x.0 l.marks l.v
