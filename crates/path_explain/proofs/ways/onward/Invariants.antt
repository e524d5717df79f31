-- The invariant: the lowest of the nearest owners of the variables passed that have the distance.
use mathlib.Core.Path.{◌≡◌}
use Rattle.formula.specs.Tables.{at}
use Rattle.forest_entries.specs.InnerFlags.{Has}
use Rattle.path_check.proofs.Entries.{Passing}
use Rattle.path_explain.specs.InnerWays.{Lowest, owner_told}
use Rattle.path_explain.proofs.ways.onward.Given as goal

abbrev pub invariant-loop-i : goal.invariant-loop-i
invariant-loop-i l = record {
  passing : Passing (λ v. ⊥) l.clauses l.start l.i;
  lowest : Lowest (λ v. Has l.clauses l.start l.i v × (at l.rows v ≡ l.row)) l.nearest (owner_told l.best);
}
