-- The invariant (Tracing), as that of flag_along, with a sole top in place of the flags: it is left as soon as there are several.
use Rattle.sets_occurrences.specs.InnerSoleTops.{Names}
use Rattle.sets_occurrences.proofs.Followed.{Tracing}
use Rattle.sets_occurrences.proofs.soles.sole_along.Given as goal

abbrev pub invariant-loop-at : goal.invariant-loop-at
invariant-loop-at l = Tracing l.n l.tops l.clauses l.next l.signs l.initial.at (λ _. Unit {0}) (Names l.initial.sole) (Names l.sole) l.at

abbrev pub decreases-loop-at : goal.decreases-loop-at
decreases-loop-at l = l.at
