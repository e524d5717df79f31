-- The invariant: from i up to the entry stand literals only. So the clause begins at i where a 0 stands before i, or where the table begins.
use Prim.Native.Nat.{ℕ, ◌≤◌, ◌<◌}
use mathlib.Core.Logic.{◌≢◌}
use Rattle.terms.specs.Literals.{variable_of}
use Rattle.formula.specs.Tables.{literal_at}
use Rattle.path_resolution.proofs.walk.clause_start.Given as goal

abbrev pub invariant-loop-i : goal.invariant-loop-i
invariant-loop-i l = (e : ℕ) → l.i ≤ e → e < l.entry → variable_of (literal_at l.clauses e) ≢ 0
