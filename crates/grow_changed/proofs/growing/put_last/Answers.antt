-- Two copies and a store, one behind the other, are one store of the whole (put_behind).
use Prim.Native.Nat.{◌+◌, ◌-◌}
use mathlib.Core.Path.{◌≡◌, sym}
use native.Mathlib.Omega.{arith}
use lib.ListN.{length}
use Rattle.grow_changed.proofs.Copying.{last_length, put_behind}
use Rattle.grow_changed.proofs.growing.put_last.Goals as goal

pub returns : goal.returns
returns c =
    let a = c.args in
    let all = last_length a.clauses.now a.clause.now in
    let part : (length a.clauses.now + length a.clause.now) - length a.clauses.now ≡ length a.clause.now = omega arith in
    record {
      put = (
        sym all,
        rw (c.copy_from_slice.ensures.after, c.copy_from_slice-2.ensures.after, part) (put_behind a.longer.now a.clauses.now a.clause.now c.requires.room.0),
      );
    }
