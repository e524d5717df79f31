-- Each row before the one at hand is 0 where its top is not flagged, and stays else; the rows from it on are as they were.
use Prim.Native.Nat.{ℕ, ◌≤◌, ◌<◌}
use mathlib.Core.Path.{◌≡◌}
use lib.ListN.{get_or}
use Rattle.forest_entries.specs.InnerFlags.{if_flagged}
use Rattle.forest_entries.proofs.keep_flagged.Given as goal

abbrev pub invariant-loop-top : goal.invariant-loop-top
invariant-loop-top l =
    record {
      done : (k : ℕ) → k < l.top-index → get_or l.top-items k 0 ≡ if_flagged l.flags (get_or l.initial.top-items k 0);
      rest : (k : ℕ) → l.top-index ≤ k → get_or l.top-items k 0 ≡ get_or l.initial.top-items k 0;
    }
