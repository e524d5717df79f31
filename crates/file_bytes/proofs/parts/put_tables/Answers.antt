-- Three runs of numbers stored one behind the other are the bytes of the three tables together (tables_bytes). Each run ends where it is
-- known to, so that the next begins near enough.
use Rattle.std.proofs.Common.{arith}
use Rattle.text_write.proofs.Stores.{wrote_more}
use Rattle.file_bytes.proofs.Composed.{wrote_as, tables_bytes}
use Rattle.file_bytes.proofs.Sizes.{numbers_end}
use Rattle.file_bytes.proofs.parts.put_tables.Goals as goal

pub put_numbers-third-requires : goal.put_numbers-third-requires
put_numbers-third-requires c =
    let pre = c.requires in
    let first = numbers_end 4 c.args.classes.now c.put_numbers-second.ensures.wrote in
    record { near = omega (arith, first, pre.near.0, pre.near.1, pre.near.2) }

pub put_numbers-requires : goal.put_numbers-requires
put_numbers-requires c =
    let pre = c.requires in
    let first = numbers_end 4 c.args.classes.now c.put_numbers-second.ensures.wrote in
    let second = numbers_end 4 c.args.parents.now c.put_numbers-third.ensures.wrote in
    record { near = omega (arith, first, second, pre.near.0, pre.near.1, pre.near.2, pre.near.3) }

pub returns : goal.returns
returns c =
    let a = c.args in
    record {
      wrote = wrote_as (tables_bytes a.classes.now a.parents.now a.counts.now)
          (wrote_more c.put_numbers-second.ensures.wrote (wrote_more c.put_numbers-third.ensures.wrote c.put_numbers.ensures.wrote));
    }
