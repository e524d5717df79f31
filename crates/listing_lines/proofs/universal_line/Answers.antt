-- The number, the level, the two lists and LF, each run behind those before it; each is within its bound, and so is the line.
use native.Mathlib.Omega.{arith}
use Rattle.text_write.proofs.Stores.{wrote_more}
use Rattle.listing_lines.specs.Lines.{universal_line}
use Rattle.listing_lines.proofs.Spelt.{line_front}
use Rattle.listing_lines.proofs.universal_line.Goals as goal

pub returns : goal.returns
unfolding universal_line
returns c =
    let s0 = c.put_named-a.ensures.stored in
    let n0 = s0.near in
    let s1 = c.put_named-b.ensures.stored in
    let n1 = s1.near in
    let s2 = c.put_list-c.ensures.stored in
    let n2 = s2.near in
    let s3 = c.put_list-d.ensures.stored in
    let n3 = s3.near in
    let last = c.put_byte.ensures.wrote in
    let end = last.end in
    let a = c.args in
    record {
      stored = line_front (universal_line a.x a.level a.entries.now a.set.now) c.requires.small.4
          (record { wrote = wrote_more (wrote_more (wrote_more (wrote_more s0.wrote s1.wrote) s2.wrote) s3.wrote) last; near = omega arith });
    }
