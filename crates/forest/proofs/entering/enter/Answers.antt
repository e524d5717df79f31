-- The rows are judged by the level table, then x is looked up in it, and over its level the entry points are flagged.
use mathlib.Core.Path.{sym, ◌∙◌}
use mathlib.Core.List.{[], ◌∷◌}
use mathlib.Core.Logic.{inl, inr}
use native.Mathlib.Omega.{arith}
use Rattle.terms.specs.Refusals.{At0}
use Rattle.terms.proofs.Verdicts.{at0_first, at0_none, refused_first, handed_on}
use Rattle.forest_tables.specs.Causes.{ForestCause}
use Rattle.forest_tables.specs.Lent.{rows}
use Rattle.forest_tables.proofs.Agreeing.{none_formed, universal_agrees, universal_within}
use Rattle.forest.specs.Causes.{NotUniversal}
use Rattle.forest.proofs.Entered.{own_level, sound_universal, sound_not_universal}
use Rattle.forest.proofs.entering.enter.Goals as goal

pub enter_over-requires : goal.enter_over-requires
enter_over-requires c =
    let a = c.args in
    let (sound, clauses) = c.requires.sound in
    let table = c.fill_levels.ensures.levelled in
    let universal = sym c.universal_at.ensures.told ∙ c.if-not-universal_at.false in
    let within = (universal_within a.n a.prefix.now a.x.0 (sym (universal_agrees sound table a.x.0) ∙ universal)).1 in
    let few = sound.few in
    let level = c.level_at-floor.ensures.read ∙ own_level sound table a.classes.now a.parents.now a.x.0 universal in
    record {
      sound = (sound, clauses);
      formed = none_formed c.in_ok-check_forest.ensures.judged.0;
      sizes = table.sizes;
      place = (omega arith, level);
    }

pub returns-in_err-check_forest : goal.returns-in_err-check_forest
returns-in_err-check_forest c =
    let a = c.args in
    rw (handed_on c.from_residual.result c.from_residual.ensures.1)
    record {
      judged = refused_first (ForestCause a.n a.prefix.now (rows a.classes.now a.parents.now a.counts.now) ∷ [])
          (At0 13 (NotUniversal a.n a.prefix.now a.x.0) ∷ []) c.in_err-check_forest.was c.check_forest.ensures.judged;
      enters = tt;
    }

pub returns : goal.returns
returns c =
    let a = c.args in
    let known = sound_universal c.requires.sound.0 c.fill_levels.ensures.levelled a.classes.now a.parents.now a.x.0 in
    record {
      judged = (c.in_ok-check_forest.ensures.judged.0, (at0_none 13 (known c.universal_at.ensures.told c.if-not-universal_at.false), tt));
      enters = c.enter_over.ensures.enters;
    }

pub returns-then-not-universal_at : goal.returns-then-not-universal_at
returns-then-not-universal_at c =
    let a = c.args in
    let known = sound_not_universal c.requires.sound.0 c.fill_levels.ensures.levelled a.classes.now a.parents.now a.x.0 in
    record {
      judged = inr (c.in_ok-check_forest.ensures.judged.0, inl (at0_first 13 (known c.universal_at.ensures.told c.if-not-universal_at.true)));
      enters = tt;
    }
