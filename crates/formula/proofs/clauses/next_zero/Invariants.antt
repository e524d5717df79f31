-- Every entry passed from `start` on is a literal, so that the 0 where the loop stops is the next one.
use Prim.Native.Nat.{ℕ, ◌≤◌, ◌<◌}
use mathlib.Core.Logic.{◌≢◌}
use Rattle.terms.specs.Literals.{variable_of}
use Rattle.formula.specs.Tables.{literal_at}
use Rattle.formula.proofs.clauses.next_zero.Given as goal

abbrev pub invariant-loop-i : goal.invariant-loop-i
invariant-loop-i l = (e : ℕ) → e < l.i → l.start ≤ e → variable_of (literal_at l.clauses e) ≢ 0
