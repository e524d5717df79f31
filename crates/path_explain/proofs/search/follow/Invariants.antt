-- The invariant: what is on the chain is still ahead or has been entered, and each clause that is entered keeps the search.
use Prim.Native.Nat.{ℕ, suc, ◌<◌}
use mathlib.Core.Path.{◌≡◌}
use mathlib.Core.Logic.{◌≢◌, ◌⊎◌}
use Rattle.formula.specs.Tables.{at as row_at}
use Rattle.sets_occurrences.specs.InnerThreads.{On}
use Rattle.path_explain.specs.InnerTies.{Heading, Holds, owner_at}
use Rattle.path_explain.specs.InnerSearch.{Flag, Kept, Room, Searching}
use Rattle.path_explain.proofs.search.follow.Given as goal

abbrev pub invariant-loop-at : goal.invariant-loop-at
invariant-loop-at l = record {
  room : Room l.rows l.queue l.end;
  kept : Kept l.initial.dists l.initial.rows l.initial.queue l.tail l.dists l.rows l.queue l.end;
  entered : (p k : ℕ) → On l.next p l.head → owner_at l.next p ≡ suc k → On l.next p l.at ⊎ (row_at l.dists k ≢ 0);
  ahead : (p : ℕ) → On l.next p l.at → On l.next p l.head;
  searched : (y begin : ℕ) → Searching (Holds l.clauses) (Flag l.flags) y begin l.row l.initial.dists l.initial.rows l.initial.queue l.tail
      → begin < l.tail → row_at l.initial.rows (row_at l.initial.queue begin) ≡ l.row
      → Heading l.clauses l.next l.head (row_at l.initial.queue begin)
      → Searching (Holds l.clauses) (Flag l.flags) y begin l.row l.dists l.rows l.queue l.end;
}

abbrev pub decreases-loop-at : goal.decreases-loop-at
decreases-loop-at l = l.at
