-- The invariant: the search has come to the variable at `head` of the queue, whose first is y; each one followed is done, and none is left at the end.
use Prim.Native.Nat.{ℕ, ◌-◌}
use Rattle.formula.specs.Tables.{at}
use Rattle.path_explain.specs.InnerTies.{Holds}
use Rattle.path_explain.specs.InnerSearch.{Flag, Room, Searching}
use Rattle.path_explain.proofs.search.search.Given as goal

abbrev pub invariant-loop-head : goal.invariant-loop-head
invariant-loop-head l = record {
  searching : (d : ℕ) × Searching (Holds l.clauses) (Flag l.flags) (at l.initial.queue 0) l.head d l.dists l.rows l.queue l.tail;
  room : Room l.rows l.queue l.tail;
}

abbrev pub decreases-loop-head : goal.decreases-loop-head
decreases-loop-head l = 4097 - l.head
