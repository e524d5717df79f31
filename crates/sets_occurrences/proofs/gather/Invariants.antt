-- The invariant: the clause of entry i begins with `start` (Passing), and the entries of universals before i are gathered. Every entry is stored, in the
-- row behind those that count, so that there is always a row for it.
use Rattle.sets_occurrences.specs.InnerThreads.{Gathered}
use Rattle.sets_occurrences.proofs.Chains.{Passing}
use Rattle.sets_occurrences.proofs.gather.Given as goal

abbrev pub invariant-loop-i : goal.invariant-loop-i
invariant-loop-i l = record {
  passing : Passing l.clauses l.start l.i;
  gathered : Gathered l.clauses l.universals l.places l.starts l.count l.i;
}
