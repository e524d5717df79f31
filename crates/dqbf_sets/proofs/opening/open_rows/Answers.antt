-- The lists are judged by the level table, then x is looked up in it, and for a universal the rows are opened.
use mathlib.Core.Path.{◌≡◌, sym, ◌∙◌}
use mathlib.Core.Bool.{Bool}
use mathlib.Core.List.{[], ◌∷◌}
use mathlib.Core.Logic.{inl, inr}
use Rattle.terms.specs.Refusals.{At0}
use Rattle.terms.proofs.Common.{clash}
use Rattle.terms.proofs.Verdicts.{at0_first, at0_none, first_of_more, handed_on}
use Rattle.forest_tables.specs.Formula.{universal}
use Rattle.forest_tables.proofs.Agreeing.{universal_agrees}
use Rattle.forest.specs.Causes.{NotUniversal}
use Rattle.dqbf_lists.specs.Causes.{ListCause}
use Rattle.dqbf_sets.proofs.opening.open_rows.Goals as goal
use Rattle.dqbf_sets.proofs.opening.open_rows.Goals.{After-universal_at}

pub check_lists-requires : goal.check_lists-requires
check_lists-requires c =
    record {
      sound = c.requires.sound;
      short = c.requires.short;
      universals = λ v. universal_agrees c.requires.sound c.fill_levels.ensures.levelled v;
    }

-- What the table says of x is what the prefix says.
told : (c : After-universal_at) {b : Bool} → c.universal_at.result ≡ b → universal c.args.n c.args.prefix.now c.args.x.0 ≡ b
told c is = sym (universal_agrees c.requires.sound c.fill_levels.ensures.levelled c.args.x.0) ∙ sym c.universal_at.ensures.told ∙ is

pub open_for-requires : goal.open_for-requires
open_for-requires c =
    record {
      sound = (c.requires.sound, c.fill_levels.ensures.levelled);
      listed = c.in_ok-check_lists.ensures.judged.0;
      universal = told (goal.at.open_for-requires c).After-universal_at c.if-not-universal_at.false;
      rows = c.requires.rows;
    }

pub returns-in_err-check_lists : goal.returns-in_err-check_lists
returns-in_err-check_lists c =
    let a = c.args in
    rw (handed_on c.from_residual.result c.from_residual.ensures.1)
    record {
      judged = first_of_more (ListCause a.n a.prefix.now a.lists.now ∷ []) (At0 13 (NotUniversal a.n a.prefix.now a.x.0) ∷ []) _ _
          c.in_err-check_lists.ensures.judged;
      opens = tt;
    }

pub returns : goal.returns
returns c =
    let u = told (goal.at.returns c).After-universal_at c.if-not-universal_at.false in
    record { judged = (c.in_ok-check_lists.ensures.judged.0, (at0_none 13 (λ no'. clash u no'), tt)); opens = c.open_for.ensures.told }

pub returns-then-not-universal_at : goal.returns-then-not-universal_at
returns-then-not-universal_at c =
    let u = told (goal.at.returns-then-not-universal_at c).After-universal_at c.if-not-universal_at.true in
    record { judged = inr (c.in_ok-check_lists.ensures.judged.0, inl (at0_first 13 u)); opens = tt }
