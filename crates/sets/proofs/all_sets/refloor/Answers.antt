-- Where the level is another, all rows of `places` are cleared, so that no set stands anywhere. Where it is the same, the tops stay, and with them
-- the places.
use mathlib.Core.Path.{sym, subst, ◌∙◌}
use native.Mathlib.Omega.{arith}
use borrow.Author.Tests.{eqb-true, not-false}
use Rattle.sets_record.specs.InnerPlaces.{Placed}
use Rattle.sets.proofs.all_sets.refloor.Goals as goal

-- there is a row of `places` for each number up to n
pub overflow_add-visit : goal.overflow_add-visit
overflow_add-visit c =
    let few = c.requires.sound.0.few in
    omega arith

pub clear_rows-requires : goal.clear_rows-requires
clear_rows-requires c =
    let few = c.requires.sound.0.few in
    let size = c.requires.floored.1 in
    record { enough = omega arith }

pub returns-then-ne : goal.returns-then-ne
returns-then-ne c =
    let o = c.refloor-floor in
    record {
      floored = o.ensures.floored;
      own = o.ensures.own.0;
      placed = λ out end placed top low some. absurd (some (c.clear_rows.ensures.cleared top (omega arith)));
    }

pub returns-else-ne : goal.returns-else-ne
returns-else-ne c =
    let a = c.args in
    let floored = c.refloor-floor.ensures.floored in
    let (own, stay) = c.refloor-floor.ensures.own in
    let same = sym (stay (eqb-true _ _ (not-false _ (sym c.ne.ensures ∙ c.if-ne.false)))) in
    record {
      floored = floored;
      own = own;
      placed = λ out end placed. subst (λ tops. Placed a.visit.n tops a.places.now out end) same placed;
    }
