-- The invariant: `found` is the deepest of the entries passed, and `depth` is its depth (Sought). Each entry either takes the place of `found` or leaves it.
use Rattle.grow_clause.proofs.Stars.{Sought}
use Rattle.grow_clause.proofs.deepest.Given as goal

abbrev pub invariant-loop-entry : goal.invariant-loop-entry
invariant-loop-entry l = Sought l.depths l.clause l.found.0 l.depth l.entry-index
