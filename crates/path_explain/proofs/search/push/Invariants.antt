-- The invariant: the flagged variables of the entries passed have rows and are queued (Pushed), and there is room for the others.
use Rattle.forest_entries.specs.InnerFlags.{Has}
use Rattle.path_check.proofs.Entries.{Passing}
use Rattle.path_explain.specs.InnerSearch.{Flag, Pushed, Room}
use Rattle.path_explain.proofs.search.push.Given as goal

abbrev pub invariant-loop-i : goal.invariant-loop-i
invariant-loop-i l = record {
  passing : Passing (λ v. ⊥) l.clauses l.start l.i;
  room : Room l.rows l.queue l.end;
  pushed : Pushed (λ v. Has l.clauses l.start l.i v × Flag l.flags v) l.row l.initial.rows l.initial.queue l.tail l.rows l.queue l.end;
}
