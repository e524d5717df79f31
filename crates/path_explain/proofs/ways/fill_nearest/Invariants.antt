-- The invariant: the nearest clause of each variable among the entries before i.
use Rattle.path_explain.specs.InnerWays.{HoldsBefore, Nearest}
use Rattle.path_explain.proofs.ways.fill_nearest.Given as goal

abbrev pub invariant-loop-i : goal.invariant-loop-i
invariant-loop-i l = Nearest (HoldsBefore l.clauses l.next l.i) l.dists l.rows l.nearest
