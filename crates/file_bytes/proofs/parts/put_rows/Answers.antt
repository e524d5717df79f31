-- The head and the three tables behind it are the record of kind 3 (rows_wrote).
use Rattle.std.proofs.Common.{◌*◌, length, arith}
use Rattle.file_bytes.proofs.Composed.{rows_wrote}
use Rattle.file_format.specs.Layout.{rows_kind}
use Rattle.file_bytes.proofs.Sizes.{head_end}
use Rattle.file_bytes.proofs.parts.put_rows.Goals as goal

pub put_tables-requires : goal.put_tables-requires
put_tables-requires c =
    let pre = c.requires in
    let head = head_end (12 * length c.args.classes.now) rows_kind c.put_head-start.ensures.wrote in
    record { near = (omega (arith, head, pre.near.0), pre.near.1, omega (arith, pre.near.1, pre.near.2), omega (arith, pre.near.1, pre.near.3)) }

pub returns : goal.returns
returns c =
    let a = c.args in
    record {
      wrote = rows_wrote (12 * length a.classes.now) a.classes.now a.parents.now a.counts.now
          (omega (arith, c.requires.near.2, c.requires.near.3)) c.put_head-start.ensures.wrote c.put_tables.ensures.wrote;
    }
