-- The counts that `fill_counts` leaves in a new table, copied out, are those of the lent rows.
use Prim.Native.Nat.{ℕ}
use lib.ListN.{length-replicate}
use Rattle.terms.specs.InnerLimits.{variable_rows}
use Rattle.forest_tables.proofs.Readings.{new_zero}
use Rattle.grow_rows.proofs.Recounted.{recounted}
use Rattle.grow_rows.proofs.counts.recount.Goals as goal

pub fill_counts-requires : goal.fill_counts-requires
fill_counts-requires c =
    let pre = c.requires in
    record { ready = (pre.formed.0, pre.formed.1, length-replicate {A = ℕ} variable_rows 0, new_zero variable_rows) }

pub returns : goal.returns
returns c = record { counted = recounted c.fill_counts.ensures.counted c.copy_out.ensures.copied }
