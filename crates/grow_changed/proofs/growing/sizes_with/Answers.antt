-- The copies stand for the forest of the rows as lent (lent_same), so that with the clause put in they are rows that add leaves.
use Prim.Native.Nat.{ℕ}
use mathlib.Core.Path.{◌≡◌, sym, subst}
use mathlib.Core.List.{List, [], ◌∷◌, ◌++◌}
use native.Mathlib.Omega.{arith}
use lib.ListN.{length-replicate}
use Rattle.formula.specs.Meaning.{connected}
use Rattle.forest_theory.specs.Reach.{Variables, Joined}
use Rattle.forest_theory.specs.Tables.{Table, lent, joins, WellFormed}
use Rattle.forest_theory.specs.Forest.{Forest}
use Rattle.forest_theory.proofs.Growth.{forest_is}
use Rattle.forest_tables.specs.Formula.{variables}
use Rattle.forest_tables.specs.Lent.{rows}
use Rattle.forest_tables.proofs.Agreeing.{lawful}
use Rattle.grow_changed.proofs.Telling.{lent_same}
use Rattle.grow_changed.proofs.growing.sizes_with.Goals as goal

pub put_in-requires : goal.put_in-requires
put_in-requires c =
    let parents : List ℕ = c.copy_rows-2.new.to in
    let classes : List ℕ = c.copy_rows.new.to in
    let X : Variables = variables c.args.n c.args.prefix.now in
    let same : (let a = c.args in
    lent X classes parents ≡ lent X a.classes.now a.parents.now) = let a = c.args in
    lent_same X a.classes.now a.parents.now classes parents c.copy_rows.ensures.copied c.copy_rows-2.ensures.copied in
    let (sound, _, _, rows) = c.requires.sound in
    let formed = c.requires.formed in
    let few = sound.few in
    let long = length-replicate {A = ℕ} 4096 0 in
    let kept = c.copy_rows.auto.to in
    let kept' = c.copy_rows-2.auto.to in
    record {
      sound = (sound, rows, omega arith, omega arith);
      formed = subst (WellFormed X) (sym same) formed;
    }

pub fill_sizes-requires : goal.fill_sizes-requires
fill_sizes-requires c =
    let parents : List ℕ = c.copy_rows-2.new.to in
    let classes : List ℕ = c.copy_rows.new.to in
    let X : Variables = variables c.args.n c.args.prefix.now in
    let same : (let a = c.args in
    lent X classes parents ≡ lent X a.classes.now a.parents.now) = let a = c.args in
    lent_same X a.classes.now a.parents.now classes parents c.copy_rows.ensures.copied c.copy_rows-2.ensures.copied in
    let grown : (let a = c.args in
    Forest X (Joined (joins X (lent X a.classes.now a.parents.now) ++ (connected a.clause.now ∷ [])))
    (lent X c.put_in.new.classes c.put_in.new.parents)) = let a = c.args in
    subst (λ (W : Table). Forest X (Joined (joins X W ++ (connected a.clause.now ∷ [])))
    (lent X c.put_in.new.classes c.put_in.new.parents)) same c.put_in.ensures.rowed.forest in
    let a = c.args in
    let (sound, clauses, closed, _) = c.requires.sound in
    let zero = c.requires.zero in
    record {
      sound = (sound, clauses, closed);
      formed = ((forest_is (lawful a.n a.prefix.now)).0 grown).formed;
      zero = zero;
    }

pub returns : goal.returns
returns c =
    let parents : List ℕ = c.copy_rows-2.new.to in
    let classes : List ℕ = c.copy_rows.new.to in
    let X : Variables = variables c.args.n c.args.prefix.now in
    let same : (let a = c.args in
    lent X classes parents ≡ lent X a.classes.now a.parents.now) = let a = c.args in
    lent_same X a.classes.now a.parents.now classes parents c.copy_rows.ensures.copied c.copy_rows-2.ensures.copied in
    let grown : (let a = c.args in
    Forest X (Joined (joins X (lent X a.classes.now a.parents.now) ++ (connected a.clause.now ∷ [])))
    (lent X c.put_in.new.classes c.put_in.new.parents)) = let a = c.args in
    subst (λ (W : Table). Forest X (Joined (joins X W ++ (connected a.clause.now ∷ [])))
    (lent X c.put_in.new.classes c.put_in.new.parents)) same c.put_in.ensures.rowed.forest in
    record { sized = (rows c.put_in.new.classes c.put_in.new.parents [], grown, c.fill_sizes.ensures.sized) }
