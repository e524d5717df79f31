-- The invariant: the existentials of the entries passed are tied to the deepest, and the rows reach no more than with the clause added (Joining). An entry
-- is tied already, or `merge` ties it; when all are, the rows have the clause.
use Rattle.grow_clause.proofs.Stars.{Joining}
use Rattle.grow_clause.proofs.join_all.Given as goal

abbrev pub invariant-loop-entry : goal.invariant-loop-entry
invariant-loop-entry l = Joining l.depths l.initial.classes l.initial.parents l.clause l.deep.0 l.classes l.parents l.entry-index
