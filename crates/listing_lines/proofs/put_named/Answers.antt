-- The word and the digits behind it: nine bytes and six at most.
use native.Mathlib.Omega.{arith}
use Rattle.text_write.proofs.Stores.{wrote_more}
use Rattle.listing_lines.proofs.Spelt.{number_most}
use Rattle.listing_lines.proofs.put_named.Goals as goal

pub returns : goal.returns
returns c =
    let word = c.put_word-next.ensures in
    let number = c.put_number.ensures in
    let first = word.wrote.end in
    let last = number.wrote.end in
    let short = c.requires in
    let most = number_most c.args.value short.small.2 in
    record { stored = record { wrote = wrote_more word.wrote number.wrote; near = omega arith } }
