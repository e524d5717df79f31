-- Head, n and entries, stored one behind the other, are the record of kind 1 (prefix_wrote).
use Rattle.std.proofs.Common.{◌+◌, ◌*◌, length, refl, arith}
use Rattle.file_bytes.proofs.Composed.{prefix_wrote}
use Rattle.file_format.specs.Layout.{prefix_kind}
use Rattle.file_bytes.proofs.Sizes.{head_end, number_end}
use Rattle.file_bytes.proofs.parts.put_prefix.Goals as goal

pub put_number-next-requires : goal.put_number-next-requires
put_number-next-requires c = record { near = omega (arith, head_end (2 * length c.args.prefix.now + 2) prefix_kind c.put_head-start.ensures.wrote) }

pub put_numbers-requires : goal.put_numbers-requires
put_numbers-requires c =
    let a = c.args in
    let head = head_end (2 * length a.prefix.now + 2) prefix_kind c.put_head-start.ensures.wrote in
    record { near = omega (arith, head, number_end 2 a.n c.put_number-next.ensures.wrote, c.requires.few) }

pub returns : goal.returns
returns c =
    let a = c.args in
    record {
      wrote = prefix_wrote (2 * length a.prefix.now + 2) a.n a.prefix.now refl
          c.put_head-start.ensures.wrote c.put_number-next.ensures.wrote c.put_numbers.ensures.wrote;
    }
