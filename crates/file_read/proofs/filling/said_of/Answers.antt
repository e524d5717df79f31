-- Each of the four is read from the file.
use Rattle.file_layout.proofs.Spans.{count_read}
use Rattle.file_read.proofs.filling.said_of.Goals as goal

pub returns : goal.returns
returns c =
    let n = count_read c.args.file.now c.two_at.ensures.read.0 in
    let entries = c.prefix_entries.ensures.counted in
    let literals = c.clause_entries.ensures.counted in
    let there = c.has_sets.ensures.told in
    record { said = λ i. record { n = n i; prefix = entries i; clauses = literals i; sets = there i } }
