-- The invariant: the variables of the entries passed are of 1 to n, so that a literal whose variable is not is the first cause.
use Rattle.std.proofs.Common.{ℕ, ◌<◌, ◌≤◌, ◌≢◌}
use Rattle.terms.specs.Literals.{variable_of}
use Rattle.formula.specs.Tables.{literal_at}
use Rattle.grow_refusals.proofs.clause.check_added.Given as goal

abbrev pub invariant-loop-i : goal.invariant-loop-i
invariant-loop-i l = (e : ℕ) → e < l.i → (variable_of (literal_at l.clause e) ≢ 0) × (variable_of (literal_at l.clause e) ≤ l.n)
