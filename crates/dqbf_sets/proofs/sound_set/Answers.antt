-- The rows that are opened tell whose list has x, so that the classes put into them by the clauses, flagged by the scheme, pick what depends on x.
use mathlib.Core.Path.{refl}
use mathlib.Core.List.{[], ◌∷◌}
use borrow.Author.Rules.{rules}
use Rattle.terms.specs.Answers.{TooLong}
use Rattle.terms.specs.Refusals.{At0}
use Rattle.terms.proofs.Verdicts.{first_of_more, handed_on}
use Rattle.formula.specs.Lent.{formula_of}
use Rattle.forest_members.specs.declared.Asked.TheVariants.{Set}
use Rattle.forest_members.specs.InnerPicked.{pick}
use Rattle.forest.proofs.Listings.{picks_listing}
use Rattle.dqbf_lists.specs.Lists.{ListHas}
use Rattle.dqbf_sets.specs.Depends.{DependsOnBy}
use Rattle.dqbf_sets.specs.Inner.{behind_formula}
use Rattle.dqbf_sets.proofs.Members.{is_universal, told_flat, picked_depends}
use Rattle.dqbf_sets.proofs.sound_set.Goals as goal

pub class_rows-requires : goal.class_rows-requires
class_rows-requires c =
    let a = c.args in
    let (sound, clauses) = c.requires.sound in
    let flat = told_flat {P = ListHas a.n a.prefix.now a.lists.now a.x.0} a.n c.open_rows.new.rows c.in_ok-open_rows.ensures.opens in
    record { sound = clauses; room = (sound.few, search rules); flat = flat }

pub returns-in_err-open_rows : goal.returns-in_err-open_rows
returns-in_err-open_rows c =
    let a = c.args in
    let depends = DependsOnBy a.scheme (formula_of a.n a.prefix.now a.clauses.now) a.lists.now a.x.0 in
    rw (handed_on c.from_residual.result c.from_residual.ensures.1)
    record {
      listed = (
        first_of_more (behind_formula a.n a.prefix.now a.lists.now a.x.0) (At0 14 (TooLong depends a.out.now) ∷ []) _ _
            c.in_err-open_rows.ensures.judged,
        refl,
      );
    }

pub returns : goal.returns
returns c =
    let a = c.args in
    let f = formula_of a.n a.prefix.now a.clauses.now in
    let tops = c.flag_entries.new.tops in
    let flags = c.flag_entries.new.flags in
    let accepted = c.in_ok-open_rows.ensures.judged in
    let u = is_universal a.n a.prefix.now a.lists.now a.x.0 accepted in
    let listed = picked_depends f a.lists.now a.x.0 u c.open_rows.new.rows c.in_ok-open_rows.ensures.opens c.class_rows.ensures.classed a.scheme tops
    flags c.flag_entries.ensures.entered in
    record {
      listed = picks_listing (behind_formula a.n a.prefix.now a.lists.now a.x.0) (pick Set a.n flags tops) a.n a.out.now c.list_picked.new.out accepted
          listed c.list_picked.result c.list_picked.ensures.listed;
    }
