-- The rows are judged by the level table, then x is looked up in it, and then y is searched for.
use mathlib.Core.Path.{sym, ◌∙◌}
use Prim.Native.Nat.{ℕ}
use mathlib.Core.List.{List, [], ◌∷◌}
use Rattle.std.specs.Prelude.{Option, None, Some}
use Rattle.std.specs.Option.{ok_or}
use Rattle.terms.specs.declared.Point.{Point}
use Rattle.terms.specs.declared.Refusal.{Refusal}
use Rattle.terms.specs.Says.{fault_number}
use Rattle.terms.specs.Answers.{Answered}
use Rattle.forest_tables.specs.InnerTabled.{tabled}
use Rattle.forest_tables.specs.InnerRows.{rows_of}
use Rattle.forest_climb.specs.InnerSearch.{Finds}
use mathlib.Core.Logic.{◌⊎◌, inl, inr, ⊎_elim}
use Rattle.terms.specs.Refusals.{Causes, At0, FirstOf, NoneOf}
use Rattle.terms.proofs.Verdicts.{at0_first, at0_none, refused_first, handed_on}
use Rattle.forest_tables.specs.Causes.{ForestCause}
use Rattle.forest_tables.specs.Lent.{rows}
use Rattle.formula.specs.Lent.{formula_of}
use Rattle.forest.specs.Answers.{Entry}
use Rattle.forest.specs.InnerOrders.{behind_entry}
use Rattle.terms.specs.declared.Fault.TheVariants.{NotAskable}
use Rattle.forest.specs.Causes.{NotUniversal, NotDeeper}
use Rattle.forest.proofs.Entered.{tabled_formed, sound_universal, sound_not_universal, sound_found, sound_nowhere}
use Rattle.forest.proofs.sound_entry.Goals as goal

pub find_entry-requires : goal.find_entry-requires
find_entry-requires c =
    let a = c.args in
    record { formed = tabled_formed c.requires.sound c.fill_levels.ensures.levelled a.classes.now a.parents.now c.in_ok-check_forest.ensures.judged.0 }

pub returns-in_err-check_forest : goal.returns-in_err-check_forest
returns-in_err-check_forest c =
    let a = c.args in
    let order = ForestCause a.n a.prefix.now (rows a.classes.now a.parents.now a.counts.now) ∷ [] in
    let later = At0 13 (NotUniversal a.n a.prefix.now a.x.0 ⊎ NotDeeper a.n a.prefix.now a.x.0 a.y.0) ∷ [] in
    rw (handed_on c.from_residual.result c.from_residual.ensures.1)
    record { answer = (refused_first order later c.in_err-check_forest.was c.check_forest.ensures.judged, tt) }

-- What is found is answered, and nothing found is refused.
either : (order : List Causes) (P : ℕ → ℕ → Type 0) (r : Refusal) (D : Option Point → Type 0) (o : Option Point) → D o
    → (D None → FirstOf order (fault_number r.0) r.1) → ((point : Point) → D (Some point) → NoneOf order × P point.class.0 point.rises)
    → Answered order P (ok_or o r)
either order P r D None d none some = (none d, tt)
either order P r D (Some point) d none some = some point d

pub returns : goal.returns
returns c =
    let a = c.args in
    let lent = rows a.classes.now a.parents.now a.counts.now in
    let sound = c.requires.sound in
    let accepted = c.in_ok-check_forest.ensures.judged.0 in
    let table = c.fill_levels.ensures.levelled in
    let told = c.universal_at.ensures.told in
    let universal = sym told ∙ c.if-not-universal_at.false in
    let known = sound_universal sound table a.classes.now a.parents.now a.x.0 told c.if-not-universal_at.false in
    let formed = tabled_formed sound table a.classes.now a.parents.now accepted in
    rw c.ok_or.ensures.value
    record {
      answer = either (behind_entry a.n a.prefix.now lent a.x.0 a.y.0) (Entry (formula_of a.n a.prefix.now []) lent a.x.0 a.y.0)
          (record { 0 = NotAskable; 1 = 0 })
          (Finds (tabled a.n c.fill_levels.new.levels c.fill_levels.new.universals) (rows_of a.n a.classes.now a.parents.now) a.x.0 a.y.0)
          c.find_entry.result c.find_entry.ensures.found
          (λ shallow. let nowhere = sound_nowhere sound table a.classes.now a.parents.now a.x.0 a.y.0 formed universal shallow in
          inr (accepted, inl (at0_first 13 (inr nowhere))))
          (λ point there. let found = sound_found sound table a.classes.now a.parents.now a.x.0 formed universal there in
          ((accepted, (at0_none 13 (⊎_elim known found.0), tt)), found.1));
    }

pub returns-then-not-universal_at : goal.returns-then-not-universal_at
returns-then-not-universal_at c =
    let a = c.args in
    let known = sound_not_universal c.requires.sound c.fill_levels.ensures.levelled a.classes.now a.parents.now a.x.0 in
    let not_universal = known c.universal_at.ensures.told c.if-not-universal_at.true in
    record { answer = (inr (c.in_ok-check_forest.ensures.judged.0, inl (at0_first 13 (inl not_universal))), tt) }
