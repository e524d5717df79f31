use Prim.Native.Nat.{◌+◌}
use mathlib.Core.Path.{sym, ap, ◌∙◌}
use mathlib.Core.Bool.{false}
use native.Mathlib.Omega.{arith}
use lib.ListN.{get_or}
use Rattle.forest_theory.specs.Tables.{row}
use Rattle.forest_members.proofs.Picked.{Summed, sum_none, sum_more_flagged, sum_same, sum_all}
use Rattle.forest_members.proofs.sum_flagged.Goals as goal
use Rattle.forest_members.proofs.sum_flagged.Goals.{Joined-flag_at, then-flag_at, else-flag_at}

-- The total behind v.
step : (c : Joined-flag_at) → let a = c.args in
    Summed a.n (λ w. get_or a.flags.now w false) (row a.n a.rows.now) (c.loop-v.v + 1) c.if-flag_at.total
step c =
    let a = c.args in
    let s = c.loop-v.invariant in
    let some = c.loop-v.auto.v in
    let low = c.loop-v-test.true in
    let flag = sym (c.flag_at.ensures.read ∙ ap (λ w. get_or a.flags.now w false) c.new.ensures.holds) in
    elim c.if-flag_at.branch [
      | then-flag_at w ↦ rw w.total-is (sum_more_flagged some low s c.requires.small.1 (flag ∙ w.if-flag_at.true)
          (w.row_of-total.ensures.read ∙ ap (row a.n a.rows.now) w.new-then-flag_at.ensures.holds))
      | else-flag_at w ↦ rw w.total-is (sum_same some low s (flag ∙ w.if-flag_at.false))
    ]

pub loop-v-init : goal.loop-v-init
loop-v-init c = sum_none

pub loop-v-preserved : goal.loop-v-preserved
loop-v-preserved c = step (goal.at.loop-v-preserved c).Joined-flag_at

pub returns-after-flag_at : goal.returns-after-flag_at
returns-after-flag_at c = record { summed = sum_all (step (goal.at.returns-after-flag_at c).Joined-flag_at) (omega arith) }
