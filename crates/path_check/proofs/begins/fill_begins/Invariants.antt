-- The invariant (Filling): the rows of the clauses before start are filled, and the stamps are below those to come.
use Prim.Native.Nat.{◌+◌, ◌-◌}
use lib.ListN.{length}
use Rattle.formula.specs.InnerLookup.{Stamps}
use Rattle.path_check.proofs.Beginning.{Filling}
use Rattle.path_check.proofs.begins.fill_begins.Given as goal

abbrev pub invariant-loop-start : goal.invariant-loop-start
invariant-loop-start l = Filling l.clauses l.begins l.count l.start × Stamps l.seen (l.start + 1)

abbrev pub decreases-loop-start : goal.decreases-loop-start
decreases-loop-start l = length l.clauses - l.start
