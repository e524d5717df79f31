-- The invariant (Passing): what the prefix names before an entry has its top, every other row is 0, and only blocks deeper than the floor are passed.
-- A variable's parent stands in a lesser block and has its top already, so that top_of gives the variable its own.
use Prim.Native.Nat.{◌+◌}
use Rattle.formula.specs.Tables.{marks_before}
use Rattle.forest_climb.proofs.Tops.{Passing}
use Rattle.forest_climb.proofs.top_blocks.Given as goal

abbrev pub invariant-loop-entry : goal.invariant-loop-entry
invariant-loop-entry l = Passing l.n l.prefix l.classes l.parents (marks_before l.prefix l.place) l.tops l.opens (l.place + l.entry-index)
