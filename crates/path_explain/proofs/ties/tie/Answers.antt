use Prim.Native.Nat.{◌+◌}
use mathlib.Core.Path.{refl, sym, ◌∙◌}
use native.Mathlib.Omega.{arith}
use lib.ListN.{get_or}
use Rattle.path_explain.proofs.Tying.{tying_zero, tying_number, tying_skip, tying_now, tying_low, tied_all}
use Rattle.path_explain.proofs.ties.tie.Goals as goal
use Rattle.path_explain.proofs.ties.tie.Goals.{then-variable-eq0, else-variable-eq0+then-begins-number-ne0, else-variable-eq0+else-begins-number-ne0}

pub bounds-begins-number : goal.bounds-begins-number
bounds-begins-number c =
    let less = tying_number c.requires.laid.0 c.loop-i.invariant.1 c.loop-i-test.true (λ z. c.if-variable-eq0.false (c.variable_at-variable.ensures.read ∙ z)) in
    omega (arith, c.requires.laid.0.rows.room)

pub pack-requires : goal.pack-requires
pack-requires c =
    let t = c.loop-i.invariant.1 in
    let low = tying_low t c.variable_at-variable.result.0 in
    record { small = (omega (arith, t.counted.few, t.from, c.requires.laid.0.sound.short), omega (arith, t.counted.few, t.from, c.requires.laid.0.sound.short)) }

pub loop-i-preserved : goal.loop-i-preserved
loop-i-preserved c =
    let (start, t) = c.loop-i.invariant in
    let laid = c.requires.laid.0 in
    let i = c.loop-i.i in
    let less = c.loop-i-test.true in
    let v = c.variable_at-variable.result.0 in
    let read = c.variable_at-variable.ensures.read in
    let row = laid.sound.rows i less in
    let short = laid.sound.short in
    elim c.if-variable-eq0.branch [
      | then-variable-eq0 w ↦ rw (w.first-is, w.next-is, w.number-is) (i + 1, tying_zero laid t less (sym read ∙ w.if-variable-eq0.true))
      | else-variable-eq0+then-begins-number-ne0 w ↦ rw (w.first-is, w.next-is, w.number-is) (
        start,
        tying_now laid t less (λ z. w.if-variable-eq0.false (read ∙ z)) w.pack.result v (get_or c.loop-i.first v 0) w.if-begins-number-ne0.true read refl
            w.pack.ensures.both (omega (arith, t.heads)) (omega (arith, t.links)),
      )
      | else-variable-eq0+else-begins-number-ne0 w ↦ rw (w.first-is, w.next-is, w.number-is)
          (start, tying_skip laid t less (λ z. w.if-variable-eq0.false (read ∙ z)) w.if-begins-number-ne0.false)
    ]

pub returns : goal.returns
returns c = record { tied = tied_all c.requires.laid.0 c.loop-i.invariant.1 c.loop-i-test.false }
