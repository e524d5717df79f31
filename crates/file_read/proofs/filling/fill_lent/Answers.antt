-- Prefix and clauses are stored, then the rows; what is said speaks of the file alone.
use Rattle.std.proofs.Common.{◌∙◌}
use Rattle.forest_tables.specs.Lent.{rows}
use Rattle.file_format.specs.Causes.{lent_tables}
use Rattle.file_read.proofs.Judging.{stored_in_lem}
use Rattle.file_read.proofs.filling.fill_lent.Goals as goal

pub returns : goal.returns
returns c =
    let a = c.args in
    let prefix = c.fill_formula.ensures.prefix in
    let clauses = c.fill_formula.ensures.clauses in
    let classes = c.fill_rows.ensures.classes in
    let parents = c.fill_rows.ensures.parents in
    let counts = c.fill_rows.ensures.counts in
    let lent = lent_tables a.prefix.now a.clauses.now (rows a.classes.now a.parents.now a.counts.now) in
    let front = stored_in_lem a.file.now lent c.requires.room.1 in
    record {
      stored = (λ i. lent_tables (prefix i) (clauses i) (rows (classes i) (parents i) (counts i))) ∙ front;
      said = c.said_of.ensures.said;
    }
