-- The invariant: every entry passed is a literal (Unclosed), the tops of those entries are drained, and what they had is summed up. One entry more drains
-- its top.
use Prim.Native.Nat.{◌+◌}
use mathlib.Core.Path.{◌≡◌}
use mathlib.Core.Bool.{false}
use lib.ListN.{get_or}
use Rattle.forest_entries.specs.InnerFlags.{Has, Via}
use Rattle.forest_entries.proofs.Flags.{Unclosed}
use Rattle.sets_sizes.specs.InnerSizes.{under, Drained}
use Rattle.sets_sizes.proofs.drain_after.Given as goal

abbrev pub invariant-loop-i : goal.invariant-loop-i
invariant-loop-i l = record {
  unclosed : Unclosed l.clauses l.start l.i;
  drained : Drained (Via l.n l.tops (Has l.clauses l.start l.i)) l.initial.flags l.flags;
  sum : l.total + under l.n l.tops l.flags ≡ under l.n l.tops l.initial.flags;
  off : get_or l.flags 0 false ≡ false;
}
