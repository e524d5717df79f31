-- The occurrence lists are those of thread, in new tables that are long enough, and all else that a pass stands on is passed on: the formula's own forest
-- is well formed.
use Prim.Native.Nat.{ℕ}
use mathlib.Core.Path.{◌∙◌}
use native.Mathlib.Omega.{arith}
use lib.ListN.{length-replicate}
use Rattle.forest_theory.proofs.Growth.{forest_is}
use Rattle.forest_tables.proofs.Agreeing.{lawful}
use Rattle.forest_tables.proofs.Readings.{new_zero}
use Rattle.sets_occurrences.proofs.Gathering.{levelled_covers}
use Rattle.listing.proofs.list_universals.Goals as goal

pub thread-requires : goal.thread-requires
thread-requires g c =
    let pre = c.requires.accepted in
    let few = pre.2 in
    let size = pre.1.sizes.1 in
    let heads = length-replicate {A = ℕ} 4097 0 in
    let links = length-replicate {A = ℕ} 16384 0 in
    record { sound = (few, omega arith, omega arith, new_zero 4097, levelled_covers pre.1 few) }

pub list_tied-requires-clause-ready : goal.list_tied-requires-clause-ready
list_tied-requires-clause-ready g c =
    let pre = c.requires.accepted in
    let short = pre.2 in
    let heads = c.thread.auto.first ∙ length-replicate {A = ℕ} 4097 0 in
    let links = c.thread.auto.next ∙ length-replicate {A = ℕ} 16384 0 in
    let formed = ((forest_is (lawful c.args.n c.args.prefix.now)).0 pre.4).formed in
    record {
      sound = pre.0;
      table = pre.1;
      formed = formed;
      closed = pre.3;
      heads = heads;
      links = omega arith;
      threaded = c.thread.ensures.threaded;
    }
