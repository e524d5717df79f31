-- What expanding answers is laid out: n and the counts in their cells, with the tables as it leaves them.
use Rattle.formula.specs.Lent.{formula_of}
use Rattle.expand.specs.Promise.{result_tables}
use Rattle.snowcoddle.proofs.Expansions.{fits_expand, tell_expand}
use Rattle.snowcoddle.proofs.expanding.snow_expand.Goals as goal

pub lay_counts-requires : goal.lay_counts-requires
lay_counts-requires c =
    let a = c.args in
    let b = c.expand-answer in
    record {
      fits = fits_expand a.rule (formula_of a.n a.prefix.now a.clauses.now) a.x (result_tables a.out_prefix.now a.out_clauses.now) _ b.result
          b.ensures.expanded;
    }

pub returns : goal.returns
returns c =
    let a = c.args in
    let b = c.expand-answer in
    record {
      told = tell_expand a.rule (formula_of a.n a.prefix.now a.clauses.now) a.x (result_tables a.out_prefix.now a.out_clauses.now) _ b.result
          c.lay_counts.ensures.laid b.ensures.expanded;
    }
