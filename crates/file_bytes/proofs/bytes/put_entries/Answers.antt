use Rattle.std.proofs.Common.{arith, ◌∙◌, ap, sym, map}
use Rattle.std.proofs.lemmas.List.{length-map, get_or-map}
use Rattle.file_format.specs.Numbers.{number_bytes}
use Rattle.file_format.proofs.Lengths.{number_length}
use Rattle.file_bytes.proofs.Composed.{wrote_as}
use Rattle.file_bytes.proofs.Runs.{numbers_none, numbers_more}
use Rattle.file_bytes.proofs.bytes.put_entries.Goals as goal

pub loop-entry-init : goal.loop-entry-init
loop-entry-init g c = (omega arith, λ f told. numbers_none c.args.width (map f c.args.entries.now) c.args.out.now c.args.at)

pub loop-entry-preserved : goal.loop-entry-preserved
loop-entry-preserved g c =
    let a = c.args in
    let l = c.loop-entry in
    let stored = c.put_number-next.ensures.wrote in (
      omega (arith, l.invariant.0, stored.end, number_length a.width c.number_of.result, c.requires.near.1),
      λ f told.
          let number = told c.entry-item.result c.number_of.result c.number_of.ensures ∙ ap f c.entry-item.is in
          let entry = get_or-map f a.entries.now l.entry-index c.entry-item.result 0 c.loop-entry-test.true in
          let many = length-map a.entries.now f in
          numbers_more a.width (map f a.entries.now) l.entry-index (l.invariant.1 f told) (omega (arith, many, c.loop-entry-test.true))
          (wrote_as (ap (number_bytes a.width) (number ∙ sym entry)) stored),
    )
