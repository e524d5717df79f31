use Prim.Native.Nat.{◌+◌, ◌≤◌}
use mathlib.Core.Path.{ap, ◌∙◌}
use native.Mathlib.Omega.{arith}
use Rattle.std.proofs.Math.Nat.{add-sub_cancel}
use Rattle.forest_theory.specs.Tables.{row}
use Rattle.sets_subtrees.proofs.Linked.{over_none, link_more, link_all}
use Rattle.sets_subtrees.proofs.link_runs.Goals as goal

pub loop-v-init : goal.loop-v-init
loop-v-init c =
    let cleared = c.clear_rows in
    let a = c.args in
    rw (add-sub_cancel a.n 1) (
      λ top _ small. over_none a.n a.tops.now cleared.new.rows a.after.now top (cleared.ensures.cleared top (omega arith)),
      λ top small. let none = cleared.ensures.cleared top (omega arith) in omega arith,
    )

pub loop-v-preserved : goal.loop-v-preserved
loop-v-preserved c =
    let top = c.row_of-top.result.0 in
    let within : top ≤ c.args.n = let low = c.requires.within.3 c.new.result.0 in
    let is = c.row_of-top.ensures in
    omega arith in
    let is = c.row_of-top.ensures.read ∙ ap (row c.args.n c.args.tops.now) c.new.ensures.holds in
    let (low, high) = c.unpack-row.ensures.both in
    let (first, more) = c.pack.ensures.both in
    link_more c.loop-v.invariant top is (λ z. omega arith) c.pack.result low (first, more ∙ ap (λ k. k + 1) high) c.requires.within.0
    (omega arith) (omega arith)

pub returns : goal.returns
returns c = record { led = link_all c.loop-v.invariant (omega arith) c.requires.within.2 (omega arith) }
