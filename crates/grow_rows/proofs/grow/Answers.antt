-- The loose rows of no clause take in every clause, so that they stand for the formula's joins; written out they are its forest (exact_forest).
use Rattle.grow_passes.proofs.Passes.{ends_new}
use Rattle.grow_rows.proofs.Exact.{equal_formula, depth_none, depth_ends, exact_forest}
use Rattle.grow_rows.proofs.grow.Goals as goal

pub fill_depths-requires : goal.fill_depths-requires
fill_depths-requires c =
    let sound = c.requires.sound.0 in
    record {
      sound = sound;
      table = ends_new sound.few;
    }

pub singles-requires : goal.singles-requires
singles-requires c =
    let few = c.requires.sound.0.few in
    let d = c.fill_depths.ensures in
    record { tables = (depth_ends d.depths few, ends_new few, ends_new few, depth_none d.depths) }

pub write_exact-requires-clause-rows : goal.write_exact-requires-clause-rows
write_exact-requires-clause-rows c =
    (c.put_all-taken.ensures.holds.growing, depth_ends c.fill_depths.ensures.depths c.requires.sound.0.few)

pub returns-clause-rowed : goal.returns-clause-rowed
returns-clause-rowed c =
    let d = c.fill_depths.ensures.depths in
    exact_forest (equal_formula d c.put_all-taken.ensures.holds.equal) (c.write_exact.ensures.exact _ d)
