-- Every entry before i is a literal (`Unclosed`), and the tops of those entries are flagged. One entry more flags its top, if it has one.
use Rattle.forest_entries.specs.InnerFlags.{Has, Via, Flagged}
use Rattle.forest_entries.proofs.Flags.{Unclosed}
use Rattle.forest_entries.proofs.flag_after.Given as goal

abbrev pub invariant-loop-i : goal.invariant-loop-i
invariant-loop-i l = Unclosed l.clauses l.start l.i × Flagged (Via l.n l.tops (Has l.clauses l.start l.i)) l.initial.flags l.flags
