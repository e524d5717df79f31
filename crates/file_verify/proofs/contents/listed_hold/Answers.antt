-- What is listed by the formula's own forest are its standard sets: the record of kind 4 is right exactly if it has them; where there is no room for
-- them, no file has them.
use Prim.Native.Nat.{ℕ}
use mathlib.Core.Path.{◌∙◌, ap, subst}
use mathlib.Core.List.{List, []}
use native.Mathlib.Omega.{arith}
use lib.ListN.{take}
use Rattle.terms.specs.declared.Scheme.TheVariants.{Standard}
use Rattle.formula.specs.Lent.{Formula, formula_of}
use Rattle.forest_theory.proofs.Growth.{forest_is}
use Rattle.forest_tables.specs.Lent.{Rows, rows}
use Rattle.forest_tables.specs.InnerRows.{Tells}
use Rattle.forest_tables.proofs.Agreeing.{lawful}
use Rattle.sets.specs.Sets.{AllSetsBy}
use Rattle.sets.proofs.Settled.{sets_are_dependencies}
use Rattle.file_format.specs.Layout.{StandardSets}
use Rattle.file_format.specs.Places.{fourth_at, HoldsNumbers}
use Rattle.file_format.proofs.Short.{take_stored}
use Rattle.file_verify.proofs.Agreement.{tells_iff}
use Rattle.file_verify.proofs.Disagree.{right_sets, long_sets}
use Rattle.file_verify.proofs.contents.listed_hold.Goals as goal

pub formed_sets-requires : goal.formed_sets-requires
formed_sets-requires c =
    let a = c.args in
    record {
      sound = c.requires.sound.1;
      formed = ((forest_is (lawful a.n a.prefix.now)).0 c.requires.forest.0).formed;
    }

pub returns-in-Err : goal.returns-in-Err
returns-in-Err c =
    let a = c.args in
    let f : Formula = formula_of a.n a.prefix.now a.clauses.now in
    let own : Rows = rows a.classes.now a.parents.now [] in
    let standard : (list : List ℕ) → AllSetsBy Standard f own list → StandardSets f list = sets_are_dependencies Standard f own c.requires.forest.0 in
    let (_, _, (list, all, long), _) = c.in-Err.ensures.listed in
    record { told = long_sets f a.file.now list c.requires.sound.0 (standard list all) (omega (arith, c.requires.forest.1)) }

pub returns-in-Ok : goal.returns-in-Ok
returns-in-Ok c =
    let a = c.args in
    let f : Formula = formula_of a.n a.prefix.now a.clauses.now in
    let own : Rows = rows a.classes.now a.parents.now [] in
    let standard : (list : List ℕ) → AllSetsBy Standard f own list → StandardSets f list = sets_are_dependencies Standard f own c.requires.forest.0 in
    let (list, all, is, room, stored) = c.in-Ok.ensures.listed in
    let many = c.in-Ok.count in
    let same = ap (take many) stored ∙ take_stored a.list.now list many is room in
    record {
      told = tells_iff c.list_holds.result (right_sets f a.file.now list (standard list all))
          (subst (λ (xs : List ℕ). Tells c.list_holds.result (HoldsNumbers 2 a.file.now (fourth_at a.file.now) xs)) same c.list_holds.ensures.told);
    }
