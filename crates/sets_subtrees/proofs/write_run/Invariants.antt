-- The invariant (Walking): what is passed is stored from `at` on, and what is to come is the rest of the run, with room for both.
use Prim.Native.Nat.{ℕ, ◌-◌, ◌<◌}
use mathlib.Core.Path.{◌≡◌}
use mathlib.Core.List.{List}
use lib.ListN.{length}
use lib.Seq.{sets}
use Rattle.sets_subtrees.proofs.Linked.{Walking}
use Rattle.sets_subtrees.proofs.write_run.Given as goal

abbrev pub invariant-loop-v : goal.invariant-loop-v
invariant-loop-v l = record {
  walking : (done : List ℕ) × Walking l.after l.initial.v l.at (length l.initial.out) done l.v l.end × (l.out ≡ sets l.initial.out l.at done);
  small : l.v < 4294967296;
}

abbrev pub decreases-loop-v : goal.decreases-loop-v
decreases-loop-v l = length l.initial.out - l.end
