-- Once the head stands, the words up to its end sum to what the definition says; the word that is missing from there to zero closes the sum
-- (closing_is).
use Rattle.std.proofs.Common.{ℕ, ◌%◌, List, take, sym, ap, ◌∙◌, arith, length-take-le}
use Rattle.file_format.specs.Numbers.{word_sum}
use Rattle.file_format.specs.Layout.{closing_kind, closing_record}
use Rattle.file_bytes.proofs.Composed.{wrote_as, front_stored, closing_wrote, closing_is}
use Rattle.file_bytes.proofs.Sizes.{head_end}
use Rattle.file_bytes.proofs.parts.put_closing.Goals as goal

pub slice_bounds-sum_words-end : goal.slice_bounds-sum_words-end
slice_bounds-sum_words-end c =
    let o = c.put_head-next in
    omega (arith, head_end 2 closing_kind o.ensures.wrote, o.auto.out, c.requires.room.1)

pub slice_bounds-sum_words-end-2 : goal.slice_bounds-sum_words-end-2
slice_bounds-sum_words-end-2 c =
    let o = c.put_head-next in
    sym (length-take-le o.result o.new.out (omega (arith, head_end 2 closing_kind o.ensures.wrote, o.auto.out, c.requires.room.1)))

pub put_number-requires : goal.put_number-requires
put_number-requires c = record { near = (omega (arith, head_end 2 closing_kind c.put_head-next.ensures.wrote, c.requires.room.0), omega arith) }

pub returns : goal.returns
returns c =
    let a = c.args in
    let head = c.put_head-next in
    let wrote = head.ensures.wrote in
    let stands = front_stored wrote (omega (arith, wrote.end, head_end 2 closing_kind wrote, c.requires.room.1)) in
    let sum = c.sum_words-sum.ensures.summed ∙ ap (λ (xs : List ℕ). word_sum xs % 65536) stands in
    let closes = closing_is (take a.at a.out.now) c.sum_words-sum.result c.from.result sum c.from.ensures in
    record { wrote = wrote_as (ap closing_record closes) (closing_wrote c.from.result wrote c.put_number.ensures.wrote) }
