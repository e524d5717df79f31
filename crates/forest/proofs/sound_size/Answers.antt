-- The entry points of x are flagged, and the sum of their counts is the size.
use Rattle.terms.proofs.Verdicts.{handed_on}
use mathlib.Core.Path.{sym, subst}
use Rattle.formula.specs.Lent.{formula_of}
use Rattle.forest_tables.specs.Lent.{rows}
use Rattle.forest.specs.Answers.{SizeBy}
use Rattle.forest.proofs.Listings.{entries_sized, counts_small}
use Rattle.forest.proofs.sound_size.Goals as goal

pub sum_flagged-requires : goal.sum_flagged-requires
sum_flagged-requires c =
    let a = c.args in
    let few = c.requires.sound.0.few in
    let f = formula_of a.n a.prefix.now a.clauses.now in
    record { small = (few, counts_small f (rows a.classes.now a.parents.now a.counts.now) a.x.0 few c.in_ok-enter.ensures.judged) }

pub returns-in_err-enter : goal.returns-in_err-enter
returns-in_err-enter c = rw (handed_on c.from_residual.result c.from_residual.ensures.1) record { sized = (c.in_err-enter.ensures.judged, tt) }

pub returns : goal.returns
returns c =
    let a = c.args in
    let lent = rows a.classes.now a.parents.now a.counts.now in
    let f = formula_of a.n a.prefix.now a.clauses.now in
    let tops = c.enter.new.tops in
    let accepted = c.in_ok-enter.ensures.judged in
    let sized = entries_sized f lent a.x.0 c.requires.sound.0.few a.scheme tops c.in_ok-enter.ensures.enters accepted in
    record { sized = (accepted, subst (SizeBy a.scheme f lent a.x.0) (sym c.sum_flagged.ensures.summed) sized) }
