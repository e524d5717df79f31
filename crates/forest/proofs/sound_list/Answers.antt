-- The entry points of x are flagged, and what the flags pick is what is asked for.
use mathlib.Core.Path.{refl}
use mathlib.Core.List.{[], ◌∷◌}
use Rattle.terms.specs.Answers.{TooLong}
use Rattle.terms.specs.Refusals.{At0}
use Rattle.terms.proofs.Verdicts.{refused_first, handed_on}
use Rattle.formula.specs.Lent.{formula_of}
use Rattle.forest_tables.specs.Lent.{rows}
use Rattle.forest_members.specs.InnerPicked.{pick}
use Rattle.forest.specs.InnerOrders.{behind_check}
use Rattle.forest.specs.InnerWanted.{Wanted}
use Rattle.forest.proofs.Listings.{picks_listing, asked_listed}
use Rattle.forest.proofs.sound_list.Goals as goal

pub returns-in_err-enter : goal.returns-in_err-enter
returns-in_err-enter c =
    let a = c.args in
    let lent = rows a.classes.now a.parents.now a.counts.now in
    let f = formula_of a.n a.prefix.now a.clauses.now in
    let wanted = Wanted a.question.scheme a.question.asked f lent a.question.x.0 in
    rw (handed_on c.from_residual.result c.from_residual.ensures.1)
    record {
      listed = (
        refused_first (behind_check a.n a.prefix.now lent a.question.x.0) (At0 14 (TooLong wanted a.out.now) ∷ []) c.in_err-enter.was
            c.enter.ensures.judged,
        refl,
      );
    }

pub returns : goal.returns
returns c =
    let a = c.args in
    let q = a.question in
    let lent = rows a.classes.now a.parents.now a.counts.now in
    let f = formula_of a.n a.prefix.now a.clauses.now in
    let tops = c.enter.new.tops in
    let entered = c.enter.new.entered in
    let order = behind_check a.n a.prefix.now lent q.x.0 in
    let none = c.in_ok-enter.ensures.judged in
    let listed = asked_listed f lent q.x.0 c.requires.sound.0.few q.scheme tops c.in_ok-enter.ensures.enters none q.asked in
    record {
      listed = picks_listing order (pick q.asked a.n entered tops) a.n a.out.now c.list_picked.new.out none listed c.list_picked.result
          c.list_picked.ensures.listed;
    }
