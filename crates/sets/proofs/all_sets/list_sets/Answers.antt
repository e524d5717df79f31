-- The tables of heads and links are long enough for the clauses on either branch, and what `thread` ties is what the pass over all universals stands on.
use Prim.Native.Nat.{ℕ}
use mathlib.Core.Path.{refl, ◌∙◌}
use native.Mathlib.Omega.{arith}
use lib.ListN.{length-replicate}
use Rattle.forest_tables.proofs.Readings.{new_zero}
use Rattle.sets_occurrences.proofs.Gathering.{levelled_covers}
use Rattle.sets.proofs.all_sets.list_sets.Goals as goal

pub thread-requires : goal.thread-requires
thread-requires c =
    let pre = c.requires in
    let few = pre.sound.2 in
    let short = c.if-clauses-le2048.true in
    let size = pre.sound.1.sizes.1 in
    let heads = length-replicate {A = ℕ} 4097 0 in
    let links = length-replicate {A = ℕ} 2048 0 in
    record { sound = (few, omega arith, omega arith, new_zero 4097, levelled_covers pre.sound.1 few) }

pub write_fitting-requires : goal.write_fitting-requires
write_fitting-requires c =
    let pre = c.requires in
    let short = c.if-clauses-le2048.true in
    let thread = c.thread in
    let heads = thread.auto.first ∙ length-replicate {A = ℕ} 4097 0 in
    let links = thread.auto.next ∙ length-replicate {A = ℕ} 2048 0 in
    record {
      ready = record { sound = pre.sound.0; table = pre.sound.1; formed = pre.sound.4; closed = pre.sound.3; heads = heads; links = omega arith; threaded = thread.ensures.threaded };
      writing = refl;
    }

pub thread-requires-2 : goal.thread-requires-2
thread-requires-2 c =
    let pre = c.requires in
    let few = pre.sound.2 in
    let short = pre.sound.2.short in
    let size = pre.sound.1.sizes.1 in
    let heads = length-replicate {A = ℕ} 4097 0 in
    let links = length-replicate {A = ℕ} 16384 0 in
    record { sound = (few, omega arith, omega arith, new_zero 4097, levelled_covers pre.sound.1 few) }

pub write_fitting-requires-2 : goal.write_fitting-requires-2
write_fitting-requires-2 c =
    let pre = c.requires in
    let short = pre.sound.2.short in
    let thread = c.thread-2 in
    let heads = thread.auto.first ∙ length-replicate {A = ℕ} 4097 0 in
    let links = thread.auto.next ∙ length-replicate {A = ℕ} 16384 0 in
    record {
      ready = record { sound = pre.sound.0; table = pre.sound.1; formed = pre.sound.4; closed = pre.sound.3; heads = heads; links = omega arith; threaded = thread.ensures.threaded };
      writing = refl;
    }
