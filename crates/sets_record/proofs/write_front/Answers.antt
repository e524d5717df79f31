-- Two stores, of which the second finds the table as long as the first did.
use native.Mathlib.Omega.{arith}
use lib.ListN.{length-set}
use Rattle.sets_record.proofs.write_front.Goals as goal

pub bounds-out-at-2 : goal.bounds-out-at-2
bounds-out-at-2 c = simp length-set (omega arith)
