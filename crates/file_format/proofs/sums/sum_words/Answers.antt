use Rattle.std.proofs.lemmas.List.{take_all}
use Rattle.file_format.proofs.WordSums.{words_sum}
use Rattle.file_format.proofs.sums.sum_words.Goals as goal

pub returns : goal.returns
returns c =
    let all = take_all c.loop-word.word-index c.as_chunks.result.0.now c.loop-word-test.false in
    rw (words_sum c.args.file.now, ← c.as_chunks.ensures.front, ← all) record { summed = c.loop-word.invariant }
