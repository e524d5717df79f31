-- The mark is stored in front of the variables, which are a row from the next one on (block_row).
use Rattle.text_lines.proofs.Rows.{block_row}
use Rattle.text_lines.proofs.tables.block_at.Goals as goal

pub returns : goal.returns
returns c =
    let a = c.args in
    let put = c.store in
    let o = c.variables_at in
    record { stored = block_row a.mark a.text.now a.at a.from a.prefix.now put.new.table o.new.prefix o.result put.ensures.stored o.ensures.stored }
