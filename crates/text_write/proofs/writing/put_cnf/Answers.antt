-- Six bytes, each put behind those before it.
use Rattle.text_write.proofs.Stores.{wrote_more}
use Rattle.text_write.proofs.writing.put_cnf.Goals as goal

pub returns : goal.returns
returns c =
    let last = wrote_more c.put_byte-f.ensures.wrote (wrote_more c.put_byte-last.ensures.wrote c.put_byte.ensures.wrote) in
    record { wrote = wrote_more c.put_byte-space.ensures.wrote (wrote_more c.put_byte-c.ensures.wrote (wrote_more c.put_byte-n.ensures.wrote last)) }
