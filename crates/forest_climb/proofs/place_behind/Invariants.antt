-- The blocks passed before entry i and those left make the level, one more while a block is open (`Seeking`). A 0 closes a block, and where none is
-- left, or the prefix ends, the place is found.
use Prim.Native.Nat.{◌+◌}
use Rattle.formula.specs.Tables.{marks_before}
use Rattle.forest_climb.proofs.Tops.{Seeking}
use Rattle.forest_climb.proofs.place_behind.Given as goal

abbrev pub invariant-loop-i : goal.invariant-loop-i
invariant-loop-i l = Seeking l.prefix (marks_before l.prefix l.place + l.blocks) l.left l.i
