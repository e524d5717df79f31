-- A clause number over the count is 13; else every entry names a clause, and the walk says where the path fails.
use mathlib.Core.Path.{sym, subst}
use mathlib.Core.List.{[], ◌∷◌}
use mathlib.Core.Logic.{inl}
use lib.ListN.{length}
use Rattle.terms.specs.Refusals.{At0}
use Rattle.terms.specs.Says.{said}
use Rattle.terms.proofs.Verdicts.{at0_first, at0_none, judges_later}
use Rattle.formula.specs.Meaning.{clauses}
use Rattle.forest_tables.specs.InnerTabled.{tabled}
use Rattle.forest_tables.proofs.Readings.{told, told_not}
use Rattle.path_check.specs.Causes.{NumberOver, PathCause}
use Rattle.path_check.specs.InnerWalk.{Rows}
use Rattle.path_check.proofs.Beginning.{not_over}
use Rattle.path_check.proofs.known_pair.Goals as goal

pub returns-then-some_over : goal.returns-then-some_over
returns-then-some_over c =
    let a = c.args in
    record { judged = inl (at0_first 13 (subst (λ k. NumberOver k a.path.now) c.fill_begins-count.ensures.filled.0 (told c.some_over.result c.if-some_over.true c.some_over.ensures.told))) }

pub follow-requires : goal.follow-requires
follow-requires c =
    let a = c.args in
    let filled = c.fill_begins-count in
    let none = told_not c.some_over.result c.if-some_over.false c.some_over.ensures.told in
    record {
      known = (
        c.requires.sound,
        record {
          all = subst (Rows a.clauses.now filled.new.begins) filled.ensures.filled.0 filled.ensures.filled.1;
          below = not_over
              a.path.now (λ over. none (subst (λ k. NumberOver k a.path.now) (sym filled.ensures.filled.0) over));
        },
      );
    }

pub returns : goal.returns
returns c =
    let a = c.args in
    let filled = c.fill_begins-count in
    let none = told_not c.some_over.result c.if-some_over.false c.some_over.ensures.told in
    let over = NumberOver (length (clauses a.clauses.now)) a.path.now in
    record {
      judged = judges_later (At0 13 over ∷ []) (PathCause (tabled a.n a.levels.now a.universals.now) a.clauses.now a.x.0 a.y.0 a.path.now ∷ []) (said c.follow.result)
          (at0_none 13 (λ o. none (subst (λ k. NumberOver k a.path.now) (sym filled.ensures.filled.0) o)), tt) c.follow.ensures.judged;
    }
