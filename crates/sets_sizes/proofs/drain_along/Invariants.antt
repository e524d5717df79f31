-- The invariant (Tracing): which flags are off, and what the rest of the chain still drains; and what was drained, with what is under the flags that are
-- left, is what was under all. At the end every flag is off (drained_all).
use Prim.Native.Nat.{◌+◌, ◌<◌}
use mathlib.Core.Path.{◌≡◌}
use mathlib.Core.Bool.{false}
use lib.ListN.{length, get_or}
use Rattle.forest_entries.specs.declared.Signs.TheVariants.{Either}
use Rattle.sets_occurrences.proofs.Followed.{Tracing}
use Rattle.sets_sizes.specs.InnerSizes.{under}
use Rattle.sets_sizes.proofs.drain_along.Given as goal

abbrev pub invariant-loop-at : goal.invariant-loop-at
invariant-loop-at l = record {
  tracing : Tracing l.n l.tops l.clauses l.next Either l.initial.at (λ e. e < length l.initial.flags) (λ e. get_or l.initial.flags e false ≡ false)
      (λ e. get_or l.flags e false ≡ false) l.at;
  sum : l.total + under l.n l.tops l.flags ≡ under l.n l.tops l.initial.flags;
  off : get_or l.flags 0 false ≡ false;
}

abbrev pub decreases-loop-at : goal.decreases-loop-at
decreases-loop-at l = l.at
