-- What write answers is laid out: its places fit, since those of the check of lists do and a text has at most as many bytes as may be written.
use Rattle.formula.specs.Lent.{formula_of}
use Rattle.dqbf_lists.specs.Causes.{check_lists_order}
use Rattle.dqbf_text.specs.Stored.{listed_text}
use Rattle.snowcoddle.proofs.Listing.{small_lists}
use Rattle.snowcoddle.proofs.Writes.{fits_write, tell_write}
use Rattle.snowcoddle.proofs.listed.snow_write_lists.Goals as goal

pub lay-requires : goal.lay-requires
lay-requires c =
    let a = c.args in
    let f = formula_of a.n a.prefix.now a.clauses.now in
    let b = c.write-answer in
    record {
      fits = fits_write (check_lists_order a.rule f a.lists.now) (listed_text f a.lists.now) a.text.now _ b.result
          (small_lists a.rule f a.lists.now) b.ensures.answered;
    }

pub returns : goal.returns
returns c =
    let a = c.args in
    let f = formula_of a.n a.prefix.now a.clauses.now in
    let b = c.write-answer in
    record {
      told = tell_write (check_lists_order a.rule f a.lists.now) (listed_text f a.lists.now) a.text.now _ b.result
          c.lay.ensures.laid b.ensures.answered;
    }
