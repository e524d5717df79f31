-- The total is the sum over the flagged numbers before v, at most 4,096 for each, so that it fits (`Summed`).
use mathlib.Core.Bool.{false}
use lib.ListN.{get_or}
use Rattle.forest_theory.specs.Tables.{row}
use Rattle.forest_members.proofs.Picked.{Summed}
use Rattle.forest_members.proofs.sum_flagged.Given as goal

abbrev pub invariant-loop-v : goal.invariant-loop-v
invariant-loop-v l = Summed l.n (λ w. get_or l.flags w false) (row l.n l.rows) l.v l.total
