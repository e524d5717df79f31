-- What storing answers is laid out as any list is: the file stands in front, with its length as the count.
use Rattle.formula.specs.Lent.{formula_of}
use Rattle.file_format.specs.Layout.{FileOf}
use Rattle.file_format.specs.Causes.{store_order}
use Rattle.snowcoddle.proofs.Telling.{fits_filling, tell_filling}
use Rattle.snowcoddle.proofs.Filed.{small_store}
use Rattle.snowcoddle.proofs.files.snow_store.Goals as goal

pub lay-requires : goal.lay-requires
lay-requires c =
    let a = c.args in
    let f = formula_of a.n a.prefix.now a.clauses.now in
    let b = c.store-answer in
    record {
      fits = fits_filling (store_order a.rule f a.file.now) (FileOf a.rule f) a.file.now _ b.result (small_store a.rule f a.file.now)
          b.ensures.stored;
    }

pub returns : goal.returns
returns c =
    let a = c.args in
    let f = formula_of a.n a.prefix.now a.clauses.now in
    let b = c.store-answer in
    record { told = tell_filling (store_order a.rule f a.file.now) (FileOf a.rule f) a.file.now _ b.result c.lay.ensures.laid b.ensures.stored }
