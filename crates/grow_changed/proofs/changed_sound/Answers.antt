-- Rows that are refused come first; else what is listed stands behind them in the order.
use mathlib.Core.Path.{refl}
use mathlib.Core.List.{[], ◌∷◌}
use Rattle.terms.specs.Listed.{Listed}
use Rattle.terms.proofs.Answers.{carry-filling}
use Rattle.terms.proofs.Orders.{behind_none}
use Rattle.terms.proofs.Verdicts.{first_of_more, handed_on}
use Rattle.formula.specs.Lent.{formula_of}
use Rattle.forest_tables.specs.Causes.{ForestCause}
use Rattle.forest_tables.specs.Lent.{rows}
use Rattle.forest_tables.proofs.Agreeing.{none_formed}
use Rattle.forest.specs.Causes.{OutputCause}
use Rattle.grow_changed.specs.Changed.{Changes}
use Rattle.grow_changed.specs.InnerChanged.{behind_added}
use Rattle.grow_changed.proofs.changed_sound.Goals as goal

pub list_changed-requires : goal.list_changed-requires
list_changed-requires c =
    record {
      sound = c.requires.sound;
      formed = none_formed c.in_ok-tables_verdict.ensures.judged.0;
    }

pub returns-in_err-tables_verdict : goal.returns-in_err-tables_verdict
returns-in_err-tables_verdict c =
    let a = c.args in
    let formula = formula_of a.n a.prefix.now a.clauses.now in
    let lent = rows a.classes.now a.parents.now a.counts.now in
    rw (handed_on c.from_residual.result c.from_residual.ensures.1)
    record {
      listed = (
        first_of_more (ForestCause a.n a.prefix.now lent ∷ []) (OutputCause (Changes a.scheme formula lent a.clause.now) a.out.now ∷ []) _ _
            c.in_err-tables_verdict.ensures.judged,
        refl,
      );
    }

pub returns : goal.returns
returns c =
    let a = c.args in
    let formula = formula_of a.n a.prefix.now a.clauses.now in
    let lent = rows a.classes.now a.parents.now a.counts.now in
    let P = Changes a.scheme formula lent a.clause.now in
    record {
      listed = carry-filling (Listed P) a.out.now c.list_changed.new.out c.list_changed.result
          (OutputCause P a.out.now ∷ []) (behind_added a.scheme formula lent a.clause.now a.out.now)
          (behind_none (ForestCause a.n a.prefix.now lent ∷ []) (OutputCause P a.out.now ∷ []) c.in_ok-tables_verdict.ensures.judged)
          c.list_changed.ensures.listed;
    }
