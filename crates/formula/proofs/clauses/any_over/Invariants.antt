-- As long as the flag is down, no entry that is passed has a variable over n.
use mathlib.Core.Path.{◌≡◌}
use mathlib.Core.Bool.{false}
use Rattle.formula.specs.InnerScan.{AllUpto}
use Rattle.formula.proofs.clauses.any_over.Given as goal

abbrev pub invariant-loop-entry : goal.invariant-loop-entry
invariant-loop-entry l = l.over ≡ false → AllUpto l.n l.clauses l.entry-index
