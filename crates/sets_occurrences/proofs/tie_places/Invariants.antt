-- The invariant: all entries before the next that is gathered are threaded (Tying), and what was judged last is recalled (Judging). A gathered entry of a
-- clause that is always true is passed, and any other is put in front of the chain of its variable.
use mathlib.Core.Bool.{Bool}
use mathlib.Core.List.{List}
use lib.ListN.{length}
use Rattle.sets_occurrences.specs.InnerThreads.{Gathered}
use Rattle.sets_occurrences.proofs.Gathering.{Tying, Judging}
use Rattle.sets_occurrences.proofs.tie_places.Given as goal

abbrev pub invariant-loop-j : goal.invariant-loop-j
invariant-loop-j l = record {
  tying : (universals : List Bool) → Gathered l.clauses universals l.places l.starts l.count (length l.clauses)
      → Tying l.clauses universals l.places l.first l.next l.count l.j;
  judging : Judging l.clauses l.places l.count l.judged l.skip l.seen l.j;
}
