-- The tables of heads and links are long enough for the clauses on either branch, and what `thread` ties is what the pass over all universals stands on.
use Prim.Native.Nat.{ℕ}
use mathlib.Core.Path.{◌∙◌}
use native.Mathlib.Omega.{arith}
use lib.ListN.{length-replicate}
use Rattle.forest_tables.proofs.Readings.{new_zero}
use Rattle.sets_occurrences.proofs.Gathering.{levelled_covers}
use Rattle.sets_sizes.proofs.fill_sizes.Goals as goal

pub thread-requires : goal.thread-requires
thread-requires c =
    let sound = c.requires.sound.1 in
    let table = c.fill_levels.ensures.levelled in
    let short = c.if-clauses-le2048.true in
    let size = table.sizes.1 in
    let heads = length-replicate {A = ℕ} 4097 0 in
    let links = length-replicate {A = ℕ} 2048 0 in
    record { sound = (sound, omega arith, omega arith, new_zero 4097, levelled_covers table sound) }

pub pass_sizes-requires : goal.pass_sizes-requires
pass_sizes-requires c =
    let sound = c.requires.sound in
    let formed = c.requires.formed in
    let (long, zero) = c.requires.zero in
    let short = c.if-clauses-le2048.true in
    let thread = c.thread in
    let heads = thread.auto.first ∙ length-replicate {A = ℕ} 4097 0 in
    let links = thread.auto.next ∙ length-replicate {A = ℕ} 2048 0 in
    record {
      ready = record {
        sound = sound.0;
        table = c.fill_levels.ensures.levelled;
        formed = formed;
        closed = sound.2;
        heads = heads;
        links = omega arith;
        threaded = thread.ensures.threaded;
      };
      zero = (long, zero, sound.1.short);
    }

pub thread-requires-2 : goal.thread-requires-2
thread-requires-2 c =
    let sound = c.requires.sound.1 in
    let table = c.fill_levels.ensures.levelled in
    let short = sound.short in
    let size = table.sizes.1 in
    let heads = length-replicate {A = ℕ} 4097 0 in
    let links = length-replicate {A = ℕ} 16384 0 in
    record { sound = (sound, omega arith, omega arith, new_zero 4097, levelled_covers table sound) }

pub pass_sizes-requires-2 : goal.pass_sizes-requires-2
pass_sizes-requires-2 c =
    let sound = c.requires.sound in
    let formed = c.requires.formed in
    let (long, zero) = c.requires.zero in
    let short = sound.1.short in
    let thread = c.thread-2 in
    let heads = thread.auto.first ∙ length-replicate {A = ℕ} 4097 0 in
    let links = thread.auto.next ∙ length-replicate {A = ℕ} 16384 0 in
    record {
      ready = record {
        sound = sound.0;
        table = c.fill_levels.ensures.levelled;
        formed = formed;
        closed = sound.2;
        heads = heads;
        links = omega arith;
        threaded = thread.ensures.threaded;
      };
      zero = (long, zero, sound.1.short);
    }
