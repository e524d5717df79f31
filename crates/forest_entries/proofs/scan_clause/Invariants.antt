-- Every entry before i is a literal (`Unclosed`), and the side says in which sign the last of them that is of x has it.
use Rattle.forest_tables.specs.Formula.{signed}
use Rattle.forest_entries.specs.InnerFlags.{HasLiteral, Sided}
use Rattle.forest_entries.proofs.Flags.{Unclosed}
use Rattle.forest_entries.proofs.scan_clause.Given as goal

abbrev pub invariant-loop-i : goal.invariant-loop-i
invariant-loop-i l = Unclosed l.clauses l.start l.i × Sided l.side (λ sign. HasLiteral l.clauses l.start l.i (signed sign l.x.0))
