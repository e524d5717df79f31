-- The word and the numbers behind it, seven bytes at most for each.
use native.Mathlib.Omega.{arith}
use Rattle.text_write.proofs.Stores.{wrote_more}
use Rattle.listing_lines.proofs.Spelt.{numbers_most}
use Rattle.listing_lines.proofs.put_list.Goals as goal

pub returns : goal.returns
returns c =
    let word = c.put_word-next.ensures in
    let list = c.put_numbers.ensures in
    let first = word.wrote.end in
    let last = list.wrote.end in
    let short = c.requires in
    let few = short.small.2.few in
    let most = numbers_most c.args.list.now short.small.2.short in
    record { stored = record { wrote = wrote_more word.wrote list.wrote; near = omega arith } }
