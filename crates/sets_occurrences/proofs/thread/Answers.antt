-- Both sizes of the tables have a row for each entry: 2,048 where there are no more entries, and else as many as there may be.
use Prim.Native.Nat.{ℕ}
use native.Mathlib.Omega.{arith}
use lib.ListN.{length-replicate}
use Rattle.terms.specs.Limits.{clause_entries}
use Rattle.sets_occurrences.proofs.thread.Goals as goal

pub thread_by-requires : goal.thread_by-requires
thread_by-requires c =
    let (sound, heads, links, none, covered) = c.requires.sound in
    let short = c.if-clauses-le2048.true in
    let rows = length-replicate {A = ℕ} 2048 0 in
    record { sound = (sound, heads, links, none, omega arith, omega arith, covered) }

pub thread_by-requires-2 : goal.thread_by-requires-2
thread_by-requires-2 c =
    let (sound, heads, links, none, covered) = c.requires.sound in
    let short = sound.short in
    let rows = length-replicate {A = ℕ} clause_entries 0 in
    record { sound = (sound, heads, links, none, omega arith, omega arith, covered) }
