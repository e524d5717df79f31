-- Three words with their numbers and the last word, each run behind those before it; each is short, and so is the line.
use native.Mathlib.Omega.{arith}
use Rattle.text_write.proofs.Stores.{wrote_more}
use Rattle.listing_lines.specs.Lines.{head_line}
use Rattle.listing_lines.proofs.Spelt.{line_front}
use Rattle.listing_lines.proofs.head_line.Goals as goal

pub returns : goal.returns
unfolding head_line
returns c =
    let s0 = c.put_named-a.ensures.stored in
    let n0 = s0.near in
    let s1 = c.put_named-b.ensures.stored in
    let n1 = s1.near in
    let s2 = c.put_named-c.ensures.stored in
    let n2 = s2.near in
    let last = c.put_word.ensures.wrote in
    let end = last.end in
    let a = c.args in
    record {
      stored = line_front (head_line a.n a.blocks a.clauses) c.requires.small.3 (record { wrote = wrote_more (wrote_more (wrote_more s0.wrote s1.wrote) s2.wrote) last; near = omega arith });
    }
