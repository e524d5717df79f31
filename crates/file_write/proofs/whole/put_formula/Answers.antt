-- The record of the clauses is stored where that of the prefix ends.
use native.Mathlib.Omega.{arith}
use Rattle.formula.specs.Lent.{formula_of}
use Rattle.file_format.proofs.Lengths.{prefix_length}
use Rattle.file_write.proofs.Composed.{formula_wrote}
use Rattle.file_write.proofs.whole.put_formula.Goals as goal

pub put_clauses-requires : goal.put_clauses-requires
put_clauses-requires c =
    let a = c.args in
    record { near = omega (arith, c.put_prefix-next.ensures.wrote.end, prefix_length a.n a.prefix.now, c.requires.small.0, c.requires.small.1) }

pub returns : goal.returns
returns c =
    let a = c.args in
    record { wrote = formula_wrote (formula_of a.n a.prefix.now a.clauses.now) c.put_prefix-next.ensures.wrote c.put_clauses.ensures.wrote }
