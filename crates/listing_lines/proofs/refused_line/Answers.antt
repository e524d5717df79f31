-- Two words with their numbers and LF, each run behind those before it.
use native.Mathlib.Omega.{arith}
use Rattle.text_write.proofs.Stores.{wrote_more}
use Rattle.listing_lines.specs.Lines.{refused_line}
use Rattle.listing_lines.proofs.Spelt.{line_front}
use Rattle.listing_lines.proofs.refused_line.Goals as goal

pub returns : goal.returns
unfolding refused_line
returns c =
    let s0 = c.put_named-a.ensures.stored in
    let n0 = s0.near in
    let s1 = c.put_named-b.ensures.stored in
    let n1 = s1.near in
    let last = c.put_byte.ensures.wrote in
    let end = last.end in
    let a = c.args in
    record {
      stored = line_front (refused_line a.number a.place) c.requires.small.2 (record { wrote = wrote_more (wrote_more s0.wrote s1.wrote) last; near = omega arith });
    }
