-- The occurrence lists of all variables lead to their clauses (threads_chained), and along these what depends on x is flagged.
use Prim.Native.Nat.{ℕ}
use mathlib.Core.Path.{◌∙◌}
use mathlib.Core.Bool.{Bool, true, false}
use native.Mathlib.Omega.{arith}
use lib.ListN.{replicate, length-replicate, length-set}
use lib.Seq.{get_or-set_same}
use Rattle.terms.specs.Limits.{clause_entries}
use Rattle.terms.specs.InnerLimits.{resolution_rows}
use Rattle.forest_tables.proofs.Readings.{new_zero}
use Rattle.path_resolution.proofs.Reaching.{threads_chained}
use Rattle.path_resolution.proofs.ends.flag_dependent.Goals as goal

pub thread-requires : goal.thread-requires
thread-requires c =
    let pre = c.requires in
    let read = pre.few.1 in
    let short = read.sound.short in
    let rows = length-set (replicate resolution_rows true) 0 false in
    let size = length-replicate {A = Bool} resolution_rows true in
    let few = pre.few.0 in
    record {
      sound = (
        read.sound,
        omega (arith, rows, size, length-replicate {A = ℕ} resolution_rows 0),
        omega (arith, short, length-replicate {A = ℕ} clause_entries 0),
        new_zero resolution_rows,
        record { rows = λ e l. let most = read.upto e in omega arith; none = get_or-set_same (replicate resolution_rows true) 0 false false (omega arith) },
      );
    }

pub flag_tied-requires : goal.flag_tied-requires
flag_tied-requires c =
    let pre = c.requires in
    let threads = c.thread in
    let short = pre.few.1.sound.short in
    let heads = threads.auto.first ∙ length-replicate {A = ℕ} resolution_rows 0 in
    let links = threads.auto.next ∙ length-replicate {A = ℕ} clause_entries 0 in
    record {
      few = pre.few;
      chained = (threads_chained pre.few.0 pre.few.1 heads (omega arith) threads.ensures.threaded, heads);
    }

pub returns : goal.returns
returns c = record { flagged = c.flag_tied.ensures.flagged }
