-- All entries passed are variables with which nothing is wrong, and the table names them (`NamedTo`).
use mathlib.Core.Path.{◌≡◌}
use lib.ListN.{length}
use Rattle.formula.specs.InnerScan.{NamedTo}
use Rattle.formula_checks.proofs.prefix.name_fresh.Given as goal

abbrev pub invariant-loop-i : goal.invariant-loop-i
invariant-loop-i l = record { size : length l.named ≡ length l.initial.named; passed : NamedTo l.n l.prefix l.start l.initial.named l.i l.named }
