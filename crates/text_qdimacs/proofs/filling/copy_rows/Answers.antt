-- Once all rows are copied, the tables are the same, row by row.
use Rattle.std.proofs.Common.{arith}
use Rattle.text_qdimacs.proofs.Copies.{same_rows}
use Rattle.text_qdimacs.proofs.filling.copy_rows.Goals as goal

pub returns : goal.returns
returns g c =
    let l = c.loop-i in
    record {
      copied = same_rows l.to c.args.from.now (omega (arith, l.auto.to, c.requires.same))
          (λ d k less. l.invariant d k (omega (arith, l.auto.to, c.loop-i-test.false)));
    }
