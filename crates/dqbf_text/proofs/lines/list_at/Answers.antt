-- The numbers are a row as in a quantifier line; by their count they are the closing 0 alone (row_alone), or y stands before it (row_list).
use Rattle.dqbf_text.specs.InnerSteps.{no_row}
use Rattle.dqbf_text.proofs.Faults.{row_alone, row_list}
use Rattle.dqbf_text.proofs.lines.list_at.Goals as goal

pub returns-in_err-row : goal.returns-in_err-row
returns-in_err-row c = rw c.from_residual.ensures (record { stored = no_row c.in_err-row.ensures.stored })

pub returns-then-row-from : goal.returns-then-row-from
returns-then-row-from c = record { stored = row_alone c.in_ok-row.ensures.stored c.if-row-from.true }

pub returns : goal.returns
returns c = record { stored = row_list c.in_ok-row.ensures.stored c.if-row-from.false }
