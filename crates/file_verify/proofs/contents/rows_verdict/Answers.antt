-- The rows of the forest are the only right ones, so that 22 is told by whether the file has them; then the sets tell it.
use mathlib.Core.Path.{sym, ◌∙◌, subst}
use mathlib.Core.Logic.{inl}
use Rattle.terms.specs.Refusals.{None, First}
use Rattle.terms.proofs.Common.{clash}
use Rattle.formula.specs.Lent.{Formula, formula_of}
use Rattle.forest_tables.specs.Lent.{Rows, rows}
use Rattle.file_format.specs.Causes.{RightRows, ForestFileCause}
use Rattle.file_verify.proofs.Disagree.{no_rows, rows_first, sets_first, none_disagree}
use Rattle.file_verify.proofs.contents.rows_verdict.Goals as goal
use Rattle.file_verify.proofs.contents.rows_verdict.Goals.{else-has_sets-via-then-has_sets+else-not-sets_hold, else-has_sets-via-else-has_sets}

pub returns-then-not-rows_hold : goal.returns-then-not-rows_hold
returns-then-not-rows_hold c =
    let a = c.args in
    let f : Formula = formula_of a.n a.prefix.now a.clauses.now in
    let first = rows_first f a.file.now (no_rows f a.file.now c.requires.rows c.if-not-rows_hold.ensures.told) in
    record { judged = (inl (subst (First (ForestFileCause f a.file.now) 22) (sym c.third_at.ensures.found) first), tt) }

pub returns-then-not-sets_hold : goal.returns-then-not-sets_hold
returns-then-not-sets_hold c =
    let a = c.args in
    let f : Formula = formula_of a.n a.prefix.now a.clauses.now in
    let own : Rows = rows a.classes.now a.parents.now a.counts.now in
    let right : RightRows f a.file.now own = (c.requires.rows, c.if-not-rows_hold.ensures.told) in
    let first = sets_first f a.file.now right (sym c.has_sets.ensures.told ∙ c.if-has_sets.true) c.if-not-sets_hold.ensures.told in
    record { judged = (inl (subst (First (ForestFileCause f a.file.now) 22) (sym c.fourth_at.ensures.found) first), tt) }

pub returns : goal.returns
returns c =
    let a = c.args in
    let f : Formula = formula_of a.n a.prefix.now a.clauses.now in
    let own : Rows = rows a.classes.now a.parents.now a.counts.now in
    let right : RightRows f a.file.now own = (c.requires.rows, c.if-not-rows_hold.ensures.told) in
    let clear : None (ForestFileCause f a.file.now) = elim c.else-has_sets.branch [
      | else-has_sets-via-then-has_sets+else-not-sets_hold w ↦ none_disagree f a.file.now right (λ some. w.if-not-sets_hold.ensures.told)
      | else-has_sets-via-else-has_sets w ↦
          none_disagree f a.file.now right (λ some. absurd (clash some (sym c.has_sets.ensures.told ∙ w.if-has_sets.false)))
    ] in
    record { judged = ((clear, tt), (own, right)) }
