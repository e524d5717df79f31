-- The invariant: the best of the clauses with a wanted literal of x among the entries before i.
use Prim.Native.Nat.{◌≤◌}
use Rattle.terms.specs.Limits.{clause_entries}
use Rattle.path_explain.specs.InnerWays.{Best, OpensBefore, owner_told}
use Rattle.path_explain.proofs.ways.first_clause.Given as goal

abbrev pub invariant-loop-i : goal.invariant-loop-i
invariant-loop-i l = record { best : Best (OpensBefore l.clauses l.next l.signs l.x.0 l.i) l.dists (owner_told l.best); within : owner_told l.best ≤ clause_entries }
