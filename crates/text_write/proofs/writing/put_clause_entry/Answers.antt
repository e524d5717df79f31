-- A space or none, the literal's word, and LF where it closes the clause are its bytes (clause_last, clause_more), once the literal is read back from its bits.
use mathlib.Core.Path.{sym, ap, ◌∙◌}
use native.Mathlib.Omega.{arith}
use lib.ListN.{length}
use lib.IntN.{ℤ, nat_abs}
use mir.Facts.{to_z-of_z}
use Rattle.text_write.specs.Written.{literal_word}
use Rattle.text_write.specs.InnerBytes.{literal_bytes}
use Rattle.text_write.proofs.Stores.{wrote_as, wrote_more, space_most, word_most, clause_last, clause_more}
use Rattle.text_write.proofs.writing.put_clause_entry.Goals as goal

pub put_literal-end-requires : goal.put_literal-end-requires
put_literal-end-requires c =
    let same = ap nat_abs (to_z-of_z c.ranges.literal) in
    record { small = omega (arith, space_most c.args.first, c.put_space-start.ensures.wrote.end, c.requires.small.0, c.requires.small.1) }

pub put_byte-requires : goal.put_byte-requires
put_byte-requires c =
    let a = c.args in
    let same = ap (λ (z : ℤ). length (literal_word z)) (to_z-of_z c.ranges.literal) in
    let word = word_most a.literal c.requires.small.1 in
    record { near = omega (arith, space_most a.first, word, c.put_space-start.ensures.wrote.end, c.put_literal-end.ensures.wrote.end, c.requires.small.0) }

pub returns-then-closes : goal.returns-then-closes
returns-then-closes c =
    let first = c.args.first in
    let same = ap (literal_bytes first) (sym (to_z-of_z c.ranges.literal)) in
    record {
      wrote = wrote_as (same ∙ clause_last first _ (sym c.closes.ensures.told ∙ c.if-closes.true))
          (wrote_more (wrote_more c.put_space-start.ensures.wrote c.put_literal-end.ensures.wrote) c.put_byte.ensures.wrote);
    }

pub returns : goal.returns
returns c =
    let first = c.args.first in
    let same = ap (literal_bytes first) (sym (to_z-of_z c.ranges.literal)) in
    record {
      wrote = wrote_as (same ∙ clause_more first _ (sym c.closes.ensures.told ∙ c.if-closes.false))
          (wrote_more c.put_space-start.ensures.wrote c.put_literal-end.ensures.wrote);
    }
