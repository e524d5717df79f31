-- The numbers picked up to `passed` are stored from `at` on, and `end` is behind them (`Counted`). All that are picked fit, so that there is a row for
-- each.
use mathlib.Core.Path.{◌≡◌}
use lib.Seq.{sets}
use Rattle.forest_members.specs.InnerPicked.{pick, picked}
use Rattle.forest_members.proofs.Picked.{Counted}
use Rattle.forest_members.proofs.write_picked.Given as goal

abbrev pub invariant-loop-passed : goal.invariant-loop-passed
invariant-loop-passed l =
    record {
      counted : Counted l.n (pick l.asked l.n l.flags l.tops) l.at l.end l.passed;
      written : l.out ≡ sets l.initial.out l.at (picked (pick l.asked l.n l.flags l.tops) l.passed);
    }
