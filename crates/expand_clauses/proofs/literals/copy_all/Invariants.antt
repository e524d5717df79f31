-- The invariant: the copies of the clauses before `start` are stored, and with those of the others all would be (Clauses); every stamp is less
-- than that of the next clause. Each round passes one clause (clauses_more).
use Prim.Native.Nat.{◌+◌, ◌-◌}
use lib.ListN.{length}
use Rattle.formula.specs.InnerLookup.{Stamps}
use Rattle.expand_clauses.specs.InnerCopied.{tabled}
use Rattle.expand_clauses.proofs.Copying.{Clauses}
use Rattle.expand_clauses.proofs.literals.copy_all.Given as goal

abbrev pub invariant-loop-start : goal.invariant-loop-start
invariant-loop-start l =
    record { copied : Clauses l.value l.x.0 (tabled l.copies) l.clauses l.initial.out l.at l.start l.out l.end; stamps : Stamps l.seen (l.start + 1) }

abbrev pub decreases-loop-start : goal.decreases-loop-start
decreases-loop-start l = length l.clauses - l.start
