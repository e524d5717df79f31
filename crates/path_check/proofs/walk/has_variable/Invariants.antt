-- The invariant: no entry from start up to i is of v.
use mathlib.Core.Path.{◌≡◌}
use Rattle.path_check.proofs.Entries.{Passing}
use Rattle.path_check.proofs.walk.has_variable.Given as goal

abbrev pub invariant-loop-i : goal.invariant-loop-i
invariant-loop-i l = Passing (λ w. w ≡ l.v.0) l.clauses l.start l.i
