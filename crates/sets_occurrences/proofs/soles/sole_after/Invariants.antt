-- The invariant: every entry passed is a literal (Unclosed), and the sole top is that of what was before and of those entries. One entry more joins its
-- top, and several end the pass.
use Prim.Native.Nat.{ℕ}
use mathlib.Core.Logic.{◌⊎◌, ◌↔◌}
use Rattle.forest_entries.specs.InnerFlags.{Has, Via}
use Rattle.forest_entries.proofs.Flags.{Unclosed}
use Rattle.sets_occurrences.specs.InnerSoleTops.{Names}
use Rattle.sets_occurrences.proofs.soles.sole_after.Given as goal

abbrev pub invariant-loop-i : goal.invariant-loop-i
invariant-loop-i l = record {
  unclosed : Unclosed l.clauses l.start l.i;
  sole : (e : ℕ) → Names l.sole e ↔ (Names l.initial.sole e ⊎ Via l.n l.tops (Has l.clauses l.start l.i) e);
}
