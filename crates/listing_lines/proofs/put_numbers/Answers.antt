use mathlib.Core.Path.{refl}
use native.Mathlib.Omega.{arith}
use lib.ListN.{get_or}
use Rattle.text_write.proofs.Stores.{wrote_more, upto_more, upto_all}
use Rattle.listing_lines.proofs.Spelt.{number_most}
use Rattle.listing_lines.proofs.put_numbers.Goals as goal

pub loop-number-preserved : goal.loop-number-preserved
loop-number-preserved c =
    let i = c.loop-number.number-index in
    let more = c.loop-number-test.true in
    let most = number_most (get_or c.args.list.now i 0) (c.requires.small.1.short i more) in
    upto_more c.loop-number.invariant more (wrote_more c.put_byte-start.ensures.wrote c.put_number-next.ensures.wrote) (omega arith) refl

pub returns : goal.returns
returns c = record { wrote = upto_all c.loop-number.invariant c.loop-number-test.false }
