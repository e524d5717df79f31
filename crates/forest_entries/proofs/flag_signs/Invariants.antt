-- The invariant (Sharing): what is flagged, and what the clauses from `start` on still have to flag, are the tops of all that shares a clause with x by
-- the signs. Each clause is flagged or passed over whole, and no stamp is as great as that of the next.
use Prim.Native.Nat.{◌+◌, ◌-◌}
use lib.ListN.{length}
use Rattle.formula.specs.InnerLookup.{Stamps}
use Rattle.forest_entries.proofs.Flags.{Sharing}
use Rattle.forest_entries.proofs.flag_signs.Given as goal

abbrev pub invariant-loop-start : goal.invariant-loop-start
invariant-loop-start l = Sharing l.n l.tops l.clauses l.signs l.x.0 l.initial.flags l.flags l.start × Stamps l.seen (l.start + 1)

abbrev pub decreases-loop-start : goal.decreases-loop-start
decreases-loop-start l = length l.clauses - l.start
