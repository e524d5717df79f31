use mathlib.Core.Path.{refl}
use mathlib.Core.Logic.{inl, inr, ⊎_elim}
use native.Mathlib.Omega.{arith}
use Rattle.forest_entries.proofs.Flags.{has_next}
use Rattle.path_check.proofs.Entries.{pass_more}
use Rattle.path_explain.proofs.Queue.{room_left, room_more, pushed_past, pushed_more}
use Rattle.path_explain.proofs.search.push.Goals as goal
use Rattle.path_explain.proofs.search.push.Goals.{then-is_new, else-is_new}

pub bounds-queue-end : goal.bounds-queue-end
bounds-queue-end c =
    let row = c.requires.room.0.rows c.loop-i.i c.loop-i-test.true in
    let is = c.variable_at-variable.ensures in
    let left = room_left c.loop-i.invariant.room {v = c.variable_at-variable.result.0} (omega arith) c.if-is_new.ensures.told.1 in
    omega (arith, c.loop-i.invariant.room.queue_size)

pub loop-i-preserved : goal.loop-i-preserved
loop-i-preserved c =
    let inv = c.loop-i.invariant in
    let v = c.variable_at-variable.result.0 in
    let is = c.variable_at-variable.ensures in
    let row = c.requires.room.0.rows c.loop-i.i c.loop-i-test.true in
    let passing = pass_more inv.passing v is.read c.if-variable-eq0.false (λ no'. no') in
    let next = has_next c.args.clauses.now c.args.start c.loop-i.i v inv.passing.from is.read in
    elim c.if-is_new.branch [
      | then-is_new w ↦
          let new = w.if-is_new.ensures.told in
          let left = room_left inv.room {v = v} (omega arith) new.1 in
          rw (w.rows-is, w.queue-is, w.end-is) (record {
            passing = passing;
            room = room_more inv.room {v = v} (omega arith) new.1 c.requires.room.3;
            pushed = pushed_more inv.pushed v (λ u h. ((next u).0 (inl h.0), h.1)) (λ u h. ⊎_elim (λ old. inl (old, h.1)) inr ((next u).1 h.0))
                ((next v).0 (inr refl), new.0) new.1 (omega (arith, inv.room.row_size)) (omega (arith, inv.room.queue_size)) c.requires.room.3;
          })
      | else-is_new w ↦ rw (w.rows-is, w.queue-is, w.end-is) (record {
        passing = passing;
        room = inv.room;
        pushed = pushed_past inv.pushed v (λ u h. ((next u).0 (inl h.0), h.1)) (λ u h. ⊎_elim (λ old. inl (old, h.1)) inr ((next u).1 h.0))
            (λ h z. w.if-is_new.ensures.told (h.1, z));
      })
    ]
