-- The letter or none, and then the number as in a line of the prefix table (list_bytes_lem).
use native.Mathlib.Omega.{arith}
use Rattle.text_write.proofs.Stores.{wrote_as, wrote_more}
use Rattle.dqbf_text.proofs.Bytes.{list_bytes_lem, letter_most}
use Rattle.dqbf_text.proofs.writing.put_list_entry.Goals as goal

pub put_entry-requires : goal.put_entry-requires
put_entry-requires c =
    let most = letter_most c.args.first in
    record { small = (omega (arith, c.put_letter-start.ensures.wrote.end, c.requires.small.0), c.requires.small.1) }

pub returns : goal.returns
returns c =
    let a = c.args in
    record { wrote = wrote_as (list_bytes_lem a.first a.entry) (wrote_more c.put_letter-start.ensures.wrote c.put_entry.ensures.wrote) }
