-- Whether the clause is always true settles which row it has.
use native.Mathlib.Omega.{arith}
use Rattle.formula.proofs.Lookups.{part_rows}
use Rattle.formula.proofs.Signs.{stamps_more}
use Rattle.path_check.proofs.begins.row_of.Goals as goal

pub always_true-requires : goal.always_true-requires
always_true-requires c =
    let a = c.args in
    let pre = c.requires in
    record {
      rows = part_rows a.clauses.now a.start a.end (omega (arith, pre.there.2)) pre.there.0.rows;
      stamps = stamps_more pre.there.3 (omega (arith, pre.there.1.from));
    }
