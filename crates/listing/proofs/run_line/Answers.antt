-- The run is written into a new table, in front of which it stands, whole; so that the line is that of the sole entry point and of the run.
use mathlib.Core.Path.{sym, subst}
use mathlib.Core.List.{List, [], ◌∷◌}
use Prim.Native.Nat.{ℕ}
use native.Mathlib.Omega.{arith}
use lib.ListN.{length-replicate}
use lib.Seq.{length-take-le}
use Rattle.listing_lines.specs.Lines.{universal_line, LineIn}
use Rattle.listing.proofs.Printed.{run_room, run_front, run_small, sole_small}
use Rattle.listing.proofs.run_line.Goals as goal

pub write_run-requires : goal.write_run-requires
write_run-requires c =
    let (list, run, counts, small) = c.requires.small.0 in
    let few = small.few in
    let long = length-replicate {A = ℕ} 4096 0 in
    record { room = (list, run, omega arith) }

pub slice_bounds-set-end : goal.slice_bounds-set-end
slice_bounds-set-end c =
    let a = c.args in
    run_room a.after.now a.run.low a.run.high c.requires.small.0 c.write_run.ensures.written

pub slice_bounds-universal_line-end-2 : goal.slice_bounds-universal_line-end-2
slice_bounds-universal_line-end-2 c =
    let a = c.args in
    sym (length-take-le a.run.high c.write_run.new.out (run_room a.after.now a.run.low a.run.high c.requires.small.0 c.write_run.ensures.written))

pub universal_line-requires : goal.universal_line-requires
universal_line-requires c =
    let a = c.args in
    let (own, low, x, level, long) = c.requires.small in
    record { small = (omega arith, level, sole_small (omega arith) (omega (arith, low)), run_small a.after.now a.run.low a.run.high own c.write_run.ensures.written, long) }

pub returns : goal.returns
returns c =
    let a = c.args in
    let call = c.universal_line in
    record {
      stored = λ list run.
          let set = run_front a.after.now a.run.low a.run.high c.requires.small.0 c.write_run.ensures.written list run in
          subst (λ (m : List ℕ). LineIn (universal_line a.x.0 a.level.0 (a.top.0 ∷ []) m) a.line.now call.new.out call.result) set call.ensures.stored;
    }
