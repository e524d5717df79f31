-- The level table says whether x is universal, and y existential and deeper; what is left is what a known pair is refused for.
use mathlib.Core.Path.{sym, ◌∙◌}
use mathlib.Core.List.{[]}
use mathlib.Core.Logic.{inl, inr}
use lib.ListN.{length}
use Rattle.terms.proofs.Verdicts.{at0_first}
use Rattle.formula.specs.Meaning.{clauses}
use Rattle.forest_tables.proofs.Agreeing.{same_back, deeper_same, tables_agree}
use Rattle.forest.proofs.Entered.{own_level, sound_universal, sound_not_universal}
use Rattle.forest_tables.proofs.Readings.{told, told_not}
use Rattle.path_check.specs.Causes.{NumberOver}
use Rattle.path_check.proofs.Agreeing.{not_deep, deep_not, judged_pair}
use Rattle.path_check.proofs.path_by_levels.Goals as goal

pub returns-then-not-universal_at : goal.returns-then-not-universal_at
returns-then-not-universal_at c = record {
  judged = λ es sound table.
      inl (at0_first 13 (inl (sound_not_universal sound table [] [] c.args.x.0 c.universal_at.ensures.told c.if-not-universal_at.true)));
}

pub returns-then-not-is_deeper : goal.returns-then-not-is_deeper
returns-then-not-is_deeper c =
    let a = c.args in
    record {
      judged = λ es sound table.
          let own = own_level sound table [] [] a.x.0 (sym c.universal_at.ensures.told ∙ c.if-not-universal_at.false) in
          inl (at0_first 13 (inr (inl (not_deep a.n es a.x.0 a.y.0
          (λ d. told_not c.is_deeper.result c.if-not-is_deeper.true c.is_deeper.ensures.told
          (deeper_same (same_back (tables_agree sound table)) (sym own) d))))));
    }

pub returns : goal.returns
returns c =
    let a = c.args in
    let universal = c.if-not-universal_at.false in
    record {
      judged = λ es sound table.
          let own = own_level sound table [] [] a.x.0 (sym c.universal_at.ensures.told ∙ universal) in
          let deep = told c.is_deeper.result c.if-not-is_deeper.false c.is_deeper.ensures.told in
          judged_pair a.clauses.now a.y.0 a.path.now (NumberOver (length (clauses a.clauses.now)) a.path.now) (tables_agree sound table) own
          (sound_universal sound table [] [] a.x.0 c.universal_at.ensures.told universal)
          (deep_not a.n es a.x.0 a.y.0 (deeper_same (tables_agree sound table) own deep)) c.known_pair.result c.known_pair.ensures.judged;
    }
