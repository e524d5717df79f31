-- The invariant (Tracing) is that of the walk without notes; beside it every note is right.
use Rattle.sets_occurrences.specs.InnerSoleTops.{Names}
use Rattle.sets_occurrences.proofs.Followed.{Tracing}
use Rattle.sets_sizes.specs.InnerNotes.{Notes}
use Rattle.sets_sizes.proofs.noting.sole_along.Given as goal

abbrev pub invariant-loop-at : goal.invariant-loop-at
invariant-loop-at l = record {
  tracing : Tracing l.n l.tops l.clauses l.next l.signs l.initial.at (λ _. Unit {0}) (Names l.initial.sole) (Names l.sole) l.at;
  noted : Notes l.n l.tops l.clauses l.notes;
}

abbrev pub decreases-loop-at : goal.decreases-loop-at
decreases-loop-at l = l.at
