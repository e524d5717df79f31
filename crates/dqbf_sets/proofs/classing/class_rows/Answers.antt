-- The rows are loaded as depths, all clauses are put into loose rows over them, and the classes of these are settled and written out (classed).
use Prim.Native.Nat.{ℕ}
use mathlib.Core.Path.{refl, ◌∙◌}
use native.Mathlib.Omega.{arith}
use lib.ListN.{length-replicate}
use Rattle.forest_tables.proofs.Readings.{row_none}
use Rattle.grow_union_find.proofs.Steps.{class_falls, parent_inside}
use Rattle.grow_passes.proofs.Passes.{ends_new, ends_read, ends_classes}
use Rattle.dqbf_sets.proofs.Classed.{classed}
use Rattle.dqbf_sets.proofs.classing.class_rows.Goals as goal

pub load-requires : goal.load-requires
load-requires c = record { table = ends_new c.requires.room.0 }

pub singles-requires : goal.singles-requires
singles-requires c =
    let few = c.requires.room.0 in
    let read = c.load.ensures.read in
    record {
      tables = (
        ends_read c.args.rows.now few (c.load.auto.table ∙ length-replicate {A = ℕ} 4097 0) read,
        ends_new few,
        ends_new few,
        read 0 ∙ row_none c.args.n c.args.rows.now 0 refl,
      );
    }

pub settle-requires : goal.settle-requires
settle-requires c =
    let g = c.put_all.ensures.holds.growing in
    record { table = ends_classes (ends_read c.args.rows.now c.requires.room.0 g.sizes.0 c.load.ensures.read) g; falling = class_falls g }

pub write_out-requires : goal.write_out-requires
write_out-requires c =
    let (few, long) = c.requires.room in
    let g = c.put_all.ensures.holds.growing in
    record {
      tables = (c.settle.auto.classes ∙ g.sizes.1, g.sizes.2, parent_inside g);
      room = (few, long, omega (arith, few, c.load.auto.table, length-replicate {A = ℕ} 4097 0));
    }

pub returns : goal.returns
returns c =
    record {
      classed = classed c.args.clauses.now c.requires.room.0 c.requires.flat c.load.ensures.read c.put_all.ensures.holds
          c.settle.ensures.settled c.write_out.ensures.written;
    }
