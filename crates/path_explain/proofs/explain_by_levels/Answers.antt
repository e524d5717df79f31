-- x and y are looked at in their order; then what is flagged by the level table is what is deeper than x by the prefix (flags_agree).
use Prim.Native.Nat.{◌<◌}
use mathlib.Core.Path.{refl, sym, ◌∙◌}
use mathlib.Core.Bool.{Bool, false}
use mathlib.Core.List.{List, [], ◌∷◌}
use mathlib.Core.Logic.{inl, inr, ⊎_elim}
use lib.ListN.{length, length-replicate}
use Rattle.terms.specs.Refusals.{Causes, At0}
use Rattle.terms.proofs.Answers.{carry-filling}
use Rattle.terms.proofs.Orders.{behind_none}
use Rattle.terms.proofs.Verdicts.{at0_first, at0_none}
use Rattle.forest_tables.specs.Formula.{variables}
use Rattle.forest_tables.proofs.Agreeing.{same_back, deeper_same, tables_agree}
use Rattle.forest_tables.proofs.Readings.{told, told_not}
use Rattle.forest.specs.Causes.{PairCause}
use Rattle.forest.proofs.Entered.{own_level, sound_universal, sound_not_universal}
use Rattle.path_check.proofs.Agreeing.{not_deep, deep_not}
use Rattle.path_explain.specs.Ways.{Shortest, Explains}
use Rattle.path_explain.proofs.Flagging.{universal_named, new_false, flags_agree}
use Rattle.path_explain.proofs.explain_by_levels.Goals as goal

pub returns-then-not-universal_at : goal.returns-then-not-universal_at
returns-then-not-universal_at c = record {
  explained = λ es sound table.
      (inl (at0_first 13 (inl (sound_not_universal sound table [] [] c.args.x.0 c.universal_at.ensures.told c.if-not-universal_at.true))), refl);
}

pub returns-then-not-is_deeper : goal.returns-then-not-is_deeper
returns-then-not-is_deeper c =
    let a = c.args in
    record {
      explained = λ es sound table.
          let own = own_level sound table [] [] a.x.0 (sym c.universal_at.ensures.told ∙ c.if-not-universal_at.false) in (
            inl (at0_first 13 (inr (not_deep a.n es a.x.0 a.y.0
                (λ d. told_not c.is_deeper.result c.if-not-is_deeper.true c.is_deeper.ensures.told
                (deeper_same (same_back (tables_agree sound table)) (sym own) d))))),
            refl,
          );
    }

pub flag_deeper-requires : goal.flag_deeper-requires
flag_deeper-requires c = record { room = (c.requires.sound.2, length-replicate {A = Bool} 4097 false, new_false 4097) }

pub explain_flagged-requires : goal.explain_flagged-requires
explain_flagged-requires c =
    let deep = told c.is_deeper.result c.if-not-is_deeper.false c.is_deeper.ensures.told in
    let universal = sym c.universal_at.ensures.told ∙ c.if-not-universal_at.false in
    let flags = c.flag_deeper.ensures.flagged in
    record {
      sound = (c.requires.sound.0, c.requires.sound.1);
      flagged = (
        flags.size,
        (flags.tells c.args.y.0).1 deep,
        universal_named c.args.n c.args.universals.now
            c.args.x.0 universal,
      );
    }

pub returns : goal.returns
returns c =
    let signs = c.args.signs in
    let n = c.args.n in
    let x = c.args.x.0 in
    let y = c.args.y.0 in
    let ls = c.args.clauses.now in
    let before = c.args.out.now in
    record {
      explained = λ es sound table.
          let X = variables n es in
          let universal = c.if-not-universal_at.false in
          let own = own_level sound table [] [] x (sym c.universal_at.ensures.told ∙ universal) in
          let deep = told c.is_deeper.result c.if-not-is_deeper.false c.is_deeper.ensures.told in
          let same = tables_agree sound table in
          let right = ⊎_elim (sound_universal sound table [] [] x c.universal_at.ensures.told universal) (deep_not n es x y (deeper_same same own deep)) in
          let later : List Causes = At0 14 ((path : List _) × Shortest X ls signs x y path × (length before < length path)) ∷ [] in
          carry-filling (Explains X ls signs x y) before _ c.explain_flagged.result later (PairCause n es x y ∷ later)
          (behind_none (PairCause n es x y ∷ []) later (at0_none 13 right, tt)) (c.explain_flagged.ensures.explained X (flags_agree same own c.flag_deeper.ensures.flagged));
    }
