-- The rows are those of the formula's own forest, so that the members by them are what depends on x (members_depend).
use Rattle.std.proofs.Common.{ℕ, [], arith}
use Rattle.std.proofs.lemmas.List.{length-replicate}
use Rattle.terms.specs.InnerLimits.{variable_rows}
use Rattle.terms.specs.declared.Scheme.TheVariants.{Standard}
use Rattle.terms.proofs.Answers.{listed-as}
use Rattle.formula.specs.Lent.{formula_of}
use Rattle.forest_theory.proofs.Growth.{forest_is}
use Rattle.forest_tables.specs.Lent.{rows}
use Rattle.forest_tables.proofs.Agreeing.{lawful, universal_within}
use Rattle.forest.proofs.Demands.{universal_alone, members_depend}
use Rattle.expand.proofs.members.find.Goals as goal

pub grow-requires : goal.grow-requires
grow-requires c =
    let sound = c.requires.sound.0 in
    let room = length-replicate {A = ℕ} variable_rows 0 in
    record { sound = (sound, c.requires.sound.1, omega (arith, sound.few), omega (arith, sound.few)) }

pub sound_members-requires : goal.sound_members-requires
sound_members-requires c =
    let a = c.args in
    let sound = c.requires.sound in
    let within = (universal_within a.n a.prefix.now a.x.0 c.requires.place.0).1 in
    record {
      sound = sound;
      formed = ((forest_is (lawful a.n a.prefix.now)).0 c.grow.ensures.rowed.forest).formed;
      place = (omega (arith, sound.0.few), c.requires.place.1);
      room = c.requires.room;
    }

pub returns : goal.returns
returns c =
    let a = c.args in
    let f = formula_of a.n a.prefix.now a.clauses.now in
    let r = rows c.grow.new.classes c.grow.new.parents [] in
    let depend = members_depend f r a.x.0 c.grow.ensures.rowed.forest Standard (universal_alone a.n a.prefix.now a.x.0 c.requires.place.0) in
    let (list, listed, is, put) = c.sound_members.ensures.listed in
    record { listed = (list, listed-as depend listed, is, put) }
