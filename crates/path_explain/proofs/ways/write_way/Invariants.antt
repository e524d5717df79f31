-- The invariant (Writing): what is written so far, and which clause comes next, for any distances that the tables stand for.
use Prim.Native.Nat.{ℕ, ◌≤◌}
use mathlib.Core.Path.{◌≡◌}
use mathlib.Core.Bool.{Bool}
use mathlib.Core.List.{List}
use Rattle.formula.specs.Tables.{at as row_at}
use Rattle.path_explain.specs.InnerTies.{Holds}
use Rattle.path_explain.specs.InnerSearch.{Flag}
use Rattle.path_explain.specs.InnerWays.{Ready}
use Rattle.path_explain.proofs.Writing.{Writing}
use Rattle.path_explain.proofs.ways.write_way.Given as goal

abbrev pub invariant-loop-i : goal.invariant-loop-i
invariant-loop-i l = record {
  behind : (e : ℕ) → l.i ≤ e → row_at l.out e ≡ row_at l.initial.out e;
  writing : (flags : List Bool) (y : ℕ) (dists : List ℕ) → Ready l.clauses l.begins flags y dists l.rows l.nearest l.first l.count
      → Writing (Holds l.clauses) (Flag flags) dists l.first l.count l.out l.clause l.i;
}
