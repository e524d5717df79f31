-- Rows that are refused come first; else what is listed, or what there is no room for, is as the call promises it.
use mathlib.Core.Path.{refl}
use mathlib.Core.List.{[], ◌∷◌}
use Rattle.terms.specs.Refusals.{At0, None}
use Rattle.terms.proofs.Verdicts.{first_of_more, handed_on}
use Rattle.formula.specs.Lent.{Formula, formula_of}
use Rattle.forest_tables.specs.Causes.{ForestCause}
use Rattle.forest_tables.specs.Lent.{Rows, rows}
use Rattle.forest_tables.proofs.Agreeing.{none_formed}
use Rattle.sets.specs.Sets.{SetsTooLong}
use Rattle.sets.proofs.AllSets.{fills_filling}
use Rattle.sets.proofs.sound_sets.Goals as goal

pub list_sets-requires : goal.list_sets-requires
list_sets-requires c =
    let lent : Rows = let a = c.args in
    rows a.classes.now a.parents.now a.counts.now in
    let accepted : (let a = c.args in
    None (ForestCause a.n a.prefix.now lent)) = let a = c.args in
    c.in_ok-check_forest.ensures.judged.0 in
    let (sound, clauses, closed) = c.requires.sound in
    record { sound = (sound, c.fill_levels.ensures.levelled, clauses, closed, none_formed accepted) }

pub returns-in_err-check_forest : goal.returns-in_err-check_forest
returns-in_err-check_forest c =
    let formula : Formula = let a = c.args in
    formula_of a.n a.prefix.now a.clauses.now in
    let lent : Rows = let a = c.args in
    rows a.classes.now a.parents.now a.counts.now in
    let a = c.args in
    rw (handed_on c.from_residual.result c.from_residual.ensures.1)
    record {
      listed = (
        first_of_more (ForestCause a.n a.prefix.now lent ∷ [])
            (At0 14 (SetsTooLong a.scheme formula lent a.out.now) ∷ []) _ _
            c.in_err-check_forest.ensures.judged,
        refl,
      );
    }

pub returns : goal.returns
returns c =
    let lent : Rows = let a = c.args in
    rows a.classes.now a.parents.now a.counts.now in
    let accepted : (let a = c.args in
    None (ForestCause a.n a.prefix.now lent)) = let a = c.args in
    c.in_ok-check_forest.ensures.judged.0 in
    let formula : Formula = let a = c.args in
    formula_of a.n a.prefix.now a.clauses.now in
    let a = c.args in
    record {
      listed = fills_filling a.scheme formula lent a.out.now c.list_sets.new.out accepted
          c.list_sets.result c.list_sets.ensures.listed;
    }
