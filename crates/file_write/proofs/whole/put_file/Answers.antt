-- One record is stored where the one before it ends; before the last the front is there as far as it goes, since there is room for all.
use native.Mathlib.Omega.{arith}
use Rattle.formula.specs.Lent.{Formula, formula_of}
use Rattle.forest_tables.specs.Lent.{Rows, rows}
use Rattle.file_write.proofs.Sizes.{size_most, formula_length, front_length, front_parts}
use Rattle.file_write.proofs.Composed.{whole_wrote}
use Rattle.file_write.proofs.whole.put_file.Goals as goal

pub put_rows-last-requires : goal.put_rows-last-requires
put_rows-last-requires c =
    let a = c.args in
    let small = c.requires.small in
    let long = formula_length (formula_of a.n a.prefix.now a.clauses.now) in
    record {
      near = (omega (arith, c.put_formula-forest.ensures.wrote.end, small.entries, small.literals), small.few, small.parents_many, small.counts_many);
    }

pub put_closing-requires : goal.put_closing-requires
put_closing-requires c =
    let a = c.args in
    let f : Formula = formula_of a.n a.prefix.now a.clauses.now in
    let r : Rows = rows a.classes.now a.parents.now a.counts.now in
    let small = c.requires.small in
    let done = c.put_formula-forest in
    let more = c.put_rows-last in
    let front = front_length f r small in
    let parts = front_parts f r in
    let most = size_most f r small in
    record {
      room = (
        omega (arith, front, parts, most, done.ensures.wrote.end, more.ensures.wrote.end),
        omega (arith, front, parts, c.requires.room, done.ensures.wrote.end, more.ensures.wrote.end, done.auto.out, more.auto.out),
      );
    }

pub returns : goal.returns
returns c =
    let a = c.args in
    let f : Formula = formula_of a.n a.prefix.now a.clauses.now in
    let r : Rows = rows a.classes.now a.parents.now a.counts.now in
    record {
      wrote =
          whole_wrote f r (omega (arith, front_length f r c.requires.small, c.requires.room)) c.put_formula-forest.ensures.wrote
          c.put_rows-last.ensures.wrote c.put_closing.ensures.wrote;
    }
