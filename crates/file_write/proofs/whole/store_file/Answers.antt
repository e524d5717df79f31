-- The size that is compared with the room is the length of the file, which its bytes then have.
use native.Mathlib.Omega.{arith}
use Rattle.formula.specs.Lent.{Formula, formula_of}
use Rattle.forest_tables.specs.Lent.{Rows, rows}
use Rattle.file_write.proofs.Sizes.{size_most, whole_length}
use Rattle.file_write.proofs.Filed.{no_room, room}
use Rattle.file_write.proofs.whole.store_file.Goals as goal

pub returns-then-file-size : goal.returns-then-file-size
returns-then-file-size c =
    let a = c.args in
    let f : Formula = formula_of a.n a.prefix.now a.clauses.now in
    let r : Rows = rows a.classes.now a.parents.now a.counts.now in
    record { stored = no_room f r c.requires.small a.file.now (omega (arith, c.size_of-size.ensures.sized, c.if-file-size.true)) }

pub overflow_cast-result : goal.overflow_cast-result
overflow_cast-result c =
    let a = c.args in
    let f : Formula = formula_of a.n a.prefix.now a.clauses.now in
    let r : Rows = rows a.classes.now a.parents.now a.counts.now in
    omega (arith, whole_length f r c.requires.small, size_most f r c.requires.small, c.put_file-written.ensures.wrote.end)

pub returns : goal.returns
returns c =
    let a = c.args in
    let f : Formula = formula_of a.n a.prefix.now a.clauses.now in
    let r : Rows = rows a.classes.now a.parents.now a.counts.now in
    record {
      stored =
          room f r c.requires.small a.file.now (omega (arith, c.size_of-size.ensures.sized, c.if-file-size.false))
          c.put_file-written.ensures.wrote;
    }
