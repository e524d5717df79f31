-- The clauses are judged, then the clause; what is listed stands behind both in the order.
use mathlib.Core.Path.{refl}
use mathlib.Core.List.{[], ◌∷◌}
use mathlib.Core.Logic.{inr}
use Rattle.terms.specs.Listed.{Listed}
use Rattle.terms.proofs.Answers.{carry-filling}
use Rattle.terms.proofs.Orders.{behind_none}
use Rattle.terms.proofs.Verdicts.{first_of_more, handed_on}
use Rattle.formula.specs.Causes.{ClauseCause}
use Rattle.formula.specs.Lent.{formula_of}
use Rattle.forest_tables.specs.Lent.{rows}
use Rattle.grow_refusals.specs.Admitted.{AddedCause}
use Rattle.grow_changed.specs.Changed.{Changes}
use Rattle.grow_changed.specs.InnerChanged.{behind_added, behind_changed}
use Rattle.grow_changed.proofs.changed_read.Goals as goal

pub changed_sound-requires : goal.changed_sound-requires
changed_sound-requires c =
    let (read, short) = c.requires.sound in
    let sound = c.in_ok-check_clauses.ensures.judged.0 in
    let admitted = c.in_ok-check_added.ensures.judged.0 in
    record { sound = (read, record { short = short; sound = sound; admitted = admitted }) }

pub returns-in_err-check_clauses : goal.returns-in_err-check_clauses
returns-in_err-check_clauses c =
    let a = c.args in
    let behind = behind_added a.scheme (formula_of a.n a.prefix.now a.clauses.now) (rows a.classes.now a.parents.now a.counts.now) a.clause.now a.out.now in
    rw (handed_on c.from_residual.result c.from_residual.ensures.1)
    record {
      listed = (
        first_of_more (ClauseCause a.n a.clauses.now ∷ []) (AddedCause a.n a.clause.now ∷ behind) _ _ c.in_err-check_clauses.ensures.judged,
        refl,
      );
    }

pub returns-in_err-check_added : goal.returns-in_err-check_added
returns-in_err-check_added c =
    let a = c.args in
    let behind = behind_added a.scheme (formula_of a.n a.prefix.now a.clauses.now) (rows a.classes.now a.parents.now a.counts.now) a.clause.now a.out.now in
    let first = first_of_more (AddedCause a.n a.clause.now ∷ []) behind _ _ c.in_err-check_added.ensures.judged in
    rw (handed_on c.from_residual-in_err-check_added.result c.from_residual-in_err-check_added.ensures.1)
    record { listed = (inr (c.in_ok-check_clauses.ensures.judged.0, first), refl) }

pub returns : goal.returns
returns c =
    let a = c.args in
    let formula = formula_of a.n a.prefix.now a.clauses.now in
    let lent = rows a.classes.now a.parents.now a.counts.now in
    let P = Changes a.scheme formula lent a.clause.now in
    let behind = behind_added a.scheme formula lent a.clause.now a.out.now in
    let sound = c.in_ok-check_clauses.ensures.judged.0 in
    record {
      listed = carry-filling (Listed P) a.out.now c.changed_sound.new.out c.changed_sound.result behind
          (behind_changed a.scheme formula lent a.clause.now a.out.now)
          (behind_none (ClauseCause a.n a.clauses.now ∷ AddedCause a.n a.clause.now ∷ []) behind (sound, c.in_ok-check_added.ensures.judged))
          c.changed_sound.ensures.listed;
    }
