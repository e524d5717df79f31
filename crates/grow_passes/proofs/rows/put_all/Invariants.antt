-- The invariant: the rows stand for the clauses before entry `start`, of which there are `taken` (PutSome), and every stamp is at most `start`, so that the
-- end of the next clause is a new one. A clause that no 0 closes is none, and then all are in.
use Prim.Native.Nat.{◌+◌, ◌-◌}
use lib.ListN.{length}
use Rattle.formula.specs.InnerLookup.{Stamps}
use Rattle.grow_passes.proofs.Passes.{PutSome}
use Rattle.grow_passes.proofs.rows.put_all.Given as goal

abbrev pub invariant-loop-start : goal.invariant-loop-start
invariant-loop-start l = PutSome l.depths l.clauses l.classes l.parents l.start l.taken × Stamps l.seen (l.start + 1)

abbrev pub decreases-loop-start : goal.decreases-loop-start
decreases-loop-start l = length l.clauses - l.start
