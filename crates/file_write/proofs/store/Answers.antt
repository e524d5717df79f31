-- The formula is judged by the rule; what is written by the prefix as the rule reads it stands behind that in the order.
use mathlib.Core.Bool.{false}
use Rattle.terms.specs.Answers.{Filling}
use Rattle.terms.proofs.Answers.{carry-filling}
use Rattle.formula.specs.Lent.{Formula, formula_of}
use Rattle.formula_rules.specs.Rules.{check_order}
use Rattle.formula_rules.proofs.Reading.{behind_read}
use Rattle.file_format.specs.Layout.{FileWith}
use Rattle.file_format.specs.InnerOrders.{behind_store}
use Rattle.file_write.proofs.store.Goals as goal

pub returns : goal.returns
returns c =
    let a = c.args in
    let f : Formula = formula_of a.n a.prefix.now a.clauses.now in
    let after = c.store_read.new.file in
    let answer = c.store_read.result in
    record {
      stored =
          behind_read (check_order a.rule f) _ a.rule a.n a.prefix.now c.in_ok-read.was c.take_formula.ensures.takes
          (λ order read. Filling order (FileWith false f read) a.file.now after answer)
          (λ order order' read. carry-filling (FileWith false f read) a.file.now after answer order order') (λ read. behind_store f read a.file.now) c.store_read.ensures.stored;
    }
