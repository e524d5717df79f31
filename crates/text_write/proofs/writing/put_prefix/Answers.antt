use lib.ListN.{get_or}
use Rattle.text_write.proofs.Stores.{upto_more, upto_all, entry_most}
use Rattle.text_write.proofs.writing.put_prefix.Goals as goal

pub loop-entry-preserved : goal.loop-entry-preserved
loop-entry-preserved c =
    let l = c.loop-entry in
    let h = c.loop-entry-test.true in
    let small = entry_most l.first (get_or c.args.prefix.now l.entry-index 0) (c.requires.small.2 l.entry-index h) in
    upto_more l.invariant h c.put_entry-next.ensures.wrote small c.starts-first.ensures.told

pub returns : goal.returns
returns c = record { wrote = upto_all c.loop-entry.invariant c.loop-entry-test.false }
