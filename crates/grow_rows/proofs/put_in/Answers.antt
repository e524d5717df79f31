-- Well-formed tables, read in, are loose rows that stand for the tables' own joins (Extending); with the clause put in and written out they are the forest of
-- these joins and the clause.
use Prim.Native.Nat.{ℕ}
use mathlib.Core.Path.{◌∙◌}
use lib.ListN.{length-replicate}
use Rattle.terms.specs.InnerLimits.{variable_rows}
use Rattle.grow_passes.proofs.Passes.{ends_new}
use Rattle.grow_rows.proofs.Exact.{depth_ends, exact_forest}
use Rattle.grow_rows.proofs.Extending.{Loaded, loaded, extended}
use Rattle.grow_rows.proofs.put_in.Goals as goal

pub fill_depths-requires : goal.fill_depths-requires
fill_depths-requires c =
    let sound = c.requires.sound.0 in
    record {
      sound = sound;
      table = ends_new sound.few;
    }

pub load-requires : goal.load-requires
load-requires c = record { table = ends_new c.requires.sound.0.few }

pub load-requires-2 : goal.load-requires-2
load-requires-2 c = record { table = ends_new c.requires.sound.0.few }

pub put_one-requires-clause-rows : goal.put_one-requires-clause-rows
put_one-requires-clause-rows c =
    let new = length-replicate {A = ℕ} variable_rows 0 in
    let read : Loaded c.args.n c.args.classes.now c.args.parents.now c.load.new.table c.load-2.new.table =
    record { sizes = (c.load.auto.table ∙ new, c.load-2.auto.table ∙ new); class = c.load.ensures.read; parent = c.load-2.ensures.read } in
    loaded c.fill_depths.ensures.depths c.requires.formed read

pub write_exact-requires-clause-rows : goal.write_exact-requires-clause-rows
write_exact-requires-clause-rows c =
    (c.put_one.ensures.joined.growing, depth_ends c.fill_depths.ensures.depths c.requires.sound.0.few)

pub returns : goal.returns
returns c =
    let new = length-replicate {A = ℕ} variable_rows 0 in
    let read : Loaded c.args.n c.args.classes.now c.args.parents.now c.load.new.table c.load-2.new.table =
    record { sizes = (c.load.auto.table ∙ new, c.load-2.auto.table ∙ new); class = c.load.ensures.read; parent = c.load-2.ensures.read } in
    let d = c.fill_depths.ensures.depths in
    record { rowed = exact_forest (extended d c.requires.formed read c.args.clause.now c.put_one.ensures.joined) (c.write_exact.ensures.exact _ d) }
